use Rattle.std.proofs.Common.{◌≡◌, ◌++◌, drop}
use Rattle.farm_model.specs.Run.{fronts_from}
use Rattle.farm_world.proofs.opening.fronts_of.Given as goal

abbrev pub invariant-loop-place : goal.invariant-loop-place
invariant-loop-place l = l.fronts.items ++ fronts_from l.site l.place (drop l.place l.site.nodes) ≡ fronts_from l.site 0 l.site.nodes
