use Rattle.std.proofs.Common.{◌≡◌, ◌+◌, ◌-◌, ◌≤◌, ◌^◌, ◌++◌, All, length, take, vec_len}
use Rattle.std.specs.Prelude.{negsuc, pos, vec_capacity, ◌≤ℤ◌}
use Rattle.cc_book.specs.Standing.{openings_of}
use Rattle.cc_book.proofs.standing.Standing.join.Given as goal

abbrev pub invariant-loop-account : goal.invariant-loop-account
invariant-loop-account l = record {
  items : l.self.balances.items ≡ l.fn.self.balances.items ++ openings_of (take l.account-index l.joining);
  room : vec_len l.self.balances + (length l.joining - l.account-index) ≤ vec_capacity l.self.balances;
  sessions : l.self.sessions ≡ l.initial.self.sessions;
  least : All (λ opening. negsuc (2 ^ 63) ≤ℤ opening) (openings_of (take l.account-index l.joining));
  most : All (λ opening. opening ≤ℤ pos (2 ^ 63)) (openings_of (take l.account-index l.joining));
}
