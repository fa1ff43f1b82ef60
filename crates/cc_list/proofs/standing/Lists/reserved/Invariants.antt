use Rattle.std.proofs.Common.{◌≡◌, ◌+◌, drop}
use Rattle.cc_book.specs.Standing.{reserved_in}
use Rattle.cc_list.proofs.standing.Lists.reserved.Given as goal

abbrev pub invariant-loop-session : goal.invariant-loop-session
invariant-loop-session l = l.reserved + reserved_in l.account (drop l.session-index l.session-items) ≡ reserved_in l.account l.fn.self.sessions.items
