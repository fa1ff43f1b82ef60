use Rattle.std.proofs.Common.{◌≡◌, ◌*◌, ◌^◌, ◌≤◌, drop, Some}
use Rattle.cc_book.specs.AccountMachine.{add, sum_of_costs}
use Rattle.cc_book.proofs.terms.Terms.total_of.Given as goal

abbrev pub invariant-loop-service : goal.invariant-loop-service
invariant-loop-service l = record {
  value : sum_of_costs l.self.tariffs l.services ≡ add (Some l.total) (sum_of_costs l.self.tariffs (drop l.service-index l.services));
  most : l.total ≤ l.service-index * 2 ^ 84;
}
