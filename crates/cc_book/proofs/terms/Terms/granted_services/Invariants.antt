use Rattle.std.proofs.Common.{◌≡◌, ◌+◌, ◌*◌, ◌^◌, ◌≤◌, ◌++◌, drop}
use Rattle.std.specs.Prelude.{negsuc, ◌≤ℤ◌}
use Rattle.cc_book.specs.AccountMachine.{holds_from, replies_from}
use Rattle.cc_book.specs.Standing.{held_in}
use Rattle.cc_book.proofs.terms.Terms.granted_services.Given as goal

abbrev pub invariant-loop-service : goal.invariant-loop-service
invariant-loop-service l = record {
  replies : l.replies.items ++ replies_from l.self l.free (drop l.service-index l.services) ≡ replies_from l.self l.fn.free l.services;
  holds : l.holds.items ++ holds_from l.self.tariffs l.free (drop l.service-index l.services) ≡ holds_from l.self.tariffs l.fn.free l.services;
  least : negsuc (2 ^ 126 + l.service-index * 2 ^ 84) ≤ℤ l.free;
  most : held_in l.holds.items ≤ l.service-index * 2 ^ 84;
}
