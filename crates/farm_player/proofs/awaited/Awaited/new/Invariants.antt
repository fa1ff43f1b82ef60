use Rattle.std.proofs.Common.{◌≡◌, replicate, None}
use Rattle.farm_player.proofs.awaited.Awaited.new.Given as goal

abbrev pub invariant-loop-made : goal.invariant-loop-made
invariant-loop-made l = l.nodes.items ≡ replicate l.made None
