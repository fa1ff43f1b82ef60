use Rattle.std.proofs.Common.{◌≡◌, ◌+◌, ◌-◌, ◌≤◌, ◌++◌, vec_len}
use Rattle.std.specs.Prelude.{replicate, vec_capacity}
use Rattle.cc_book.proofs.open_sessions.OpenSessions.join.Given as goal

abbrev pub invariant-loop-account : goal.invariant-loop-account
invariant-loop-account l = record {
  items : l.self-inside.totals.items ≡ l.initial.self-inside.totals.items ++ replicate l._account 0;
  room : vec_len l.self-inside.totals + (l.joining - l._account) ≤ vec_capacity l.self-inside.totals;
  sessions : l.self-inside.sessions ≡ l.initial.self-inside.sessions;
  lasts : l.self-inside.lasts ≡ l.initial.self-inside.lasts;
  held : l.self-inside.held ≡ l.initial.self-inside.held;
}
