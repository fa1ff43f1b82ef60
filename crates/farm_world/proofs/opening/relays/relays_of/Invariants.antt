use Rattle.std.proofs.Common.{◌≡◌, ◌++◌, drop}
use Rattle.farm_model.specs.Run.{relays_from}
use Rattle.farm_world.proofs.opening.relays.relays_of.Given as goal

abbrev pub invariant-loop-place : goal.invariant-loop-place
invariant-loop-place l = l.relays.items ++ relays_from l.site l.place (drop l.place l.site.nodes) ≡ relays_from l.site 0 l.site.nodes
