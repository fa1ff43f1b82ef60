use Rattle.std.proofs.Common.{◌≡◌, ◌+◌, drop}
use Rattle.cc_book.specs.Standing.{held_in}
use Rattle.cc_book.proofs.session.held_in.Given as goal

abbrev pub invariant-loop-hold : goal.invariant-loop-hold
invariant-loop-hold l = l.held + held_in (drop l.hold-index l.holds) ≡ held_in l.holds
