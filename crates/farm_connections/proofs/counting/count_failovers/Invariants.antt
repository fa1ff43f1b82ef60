use Rattle.std.proofs.Common.{◌≡◌, take}
use Rattle.std.specs.List.{fold}
use Rattle.farm_connections.specs.Counting.{with_resent}
use Rattle.farm_connections.proofs.counting.count_failovers.Given as goal

abbrev pub invariant-loop-message : goal.invariant-loop-message
invariant-loop-message l = l.tally ≡ fold with_resent l.fn.tally (take l.message-index l.fn.out.items)
