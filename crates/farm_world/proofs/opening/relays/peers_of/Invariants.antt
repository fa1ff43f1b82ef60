use Rattle.std.proofs.Common.{◌≡◌, ◌++◌, drop}
use Rattle.farm_model.specs.Run.{peers_from}
use Rattle.farm_world.proofs.opening.relays.peers_of.Given as goal

abbrev pub invariant-loop-place : goal.invariant-loop-place
invariant-loop-place l = l.peers.items ++ peers_from l.site l.relay l.place (drop l.place l.site.nodes) ≡ peers_from l.site l.relay 0 l.site.nodes
