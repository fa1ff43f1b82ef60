use Rattle.std.proofs.Common.{◌≡◌, ℕ, ◌≤◌, ◌^◌}
use Rattle.cc_book.specs.Standing.{reserved_in}
use Rattle.cc_book.proofs.KeptSessions.{left_at}
use Rattle.cc_book.proofs.open_sessions.OpenSessions.sweep.Given as goal

abbrev pub invariant-loop-place : goal.invariant-loop-place
invariant-loop-place l = record {
  items : l.self.items ≡ left_at l.validity l.moment l.place l.initial.self.items;
  held : (account : ℕ) → reserved_in account l.self.items ≤ 2 ^ 124;
  room : l.initial.self.room ≤ l.self.room;
  accounts : l.self.accounts ≡ l.initial.self.accounts;
}
