use Rattle.std.proofs.Common.{◌≡◌, ◌++◌, drop}
use Rattle.farm_model.specs.Loss.{peers_of}
use Rattle.farm_world.proofs.loss.peers_of.Given as goal

abbrev pub invariant-loop-direction : goal.invariant-loop-direction
invariant-loop-direction l = l.peers.items ++ peers_of l.node (drop l.direction-index l.directions) ≡ peers_of l.node l.directions
