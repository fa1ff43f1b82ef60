use Rattle.std.proofs.Common.{◌≡◌, ◌*◌, ◌^◌, drop}
use Rattle.std.specs.Prelude.{pos, ◌+ℤ◌, ◌≤ℤ◌}
use Rattle.cc_book.specs.Pricing.{priced}
use Rattle.cc_book.specs.ServiceRating.{used_total}
use Rattle.cc_book.proofs.terms.Terms.used_total.Given as goal

abbrev pub invariant-loop-service : goal.invariant-loop-service
invariant-loop-service l = record {
  value : l.total +ℤ pos (used_total (priced l.self.tariffs l.prices) (drop l.service-index l.services))
      ≡ pos (used_total (priced l.self.tariffs l.prices) l.services);
  least : pos 0 ≤ℤ l.total;
  most : l.total ≤ℤ pos (l.service-index * 2 ^ 98);
}
