use Rattle.std.proofs.Common.{◌≡◌}
use Rattle.std.specs.Prelude.{vec_capacity}
use Rattle.cc_book.proofs.KeptSessions.{left_at}
use Rattle.cc_list.proofs.standing.Lists.sweep.Given as goal

abbrev pub invariant-loop-place : goal.invariant-loop-place
invariant-loop-place l = record {
  sessions : l.self.sessions.items ≡ left_at l.validity l.moment l.place l.initial.self.sessions.items;
  room : vec_capacity l.self.sessions ≡ vec_capacity l.initial.self.sessions;
  balances : l.self.balances ≡ l.initial.self.balances;
}
