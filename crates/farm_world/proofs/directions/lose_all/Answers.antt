use Rattle.std.proofs.Common.{arith}
use Rattle.std.proofs.lemmas.List.Edits.{map_over_more}
use Rattle.farm_model.specs.World.{emptied}
use Rattle.farm_world.proofs.directions.lose_all.Goals as goal

pub loop-direction-preserved : goal.loop-direction-preserved
loop-direction-preserved c =
    rw (c.empty_between.ensures, ← c.direction-item.is)
    (map_over_more (emptied c.args.a c.args.b) c.args.directions.now c.loop-direction.directions c.loop-direction.direction-index c.direction-item.result
    (omega arith) c.loop-direction.invariant c.direction-item.is)
