use Rattle.std.proofs.Common.{◌≡◌, ◌++◌, take}
use Rattle.record_state.specs.Comparing.{told_to}
use Rattle.record_state.proofs.comparing.is_as_told.Given as goal

abbrev pub invariant-loop-item : goal.invariant-loop-item
invariant-loop-item l = told_to l.peer (take l.item-index l.told) ++ l.rest ≡ l.sent
