use Rattle.std.proofs.Common.{◌≡◌, ◌++◌, map, take, drop}
use Rattle.farm_model.specs.World.{emptied}
use Rattle.farm_world.proofs.directions.lose_all.Given as goal

abbrev pub invariant-loop-direction : goal.invariant-loop-direction
invariant-loop-direction l =
    l.directions ≡ map (emptied l.a l.b) (take l.direction-index l.initial.directions) ++ drop l.direction-index l.initial.directions
