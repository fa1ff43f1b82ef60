use Rattle.std.proofs.Common.{◌≡◌}
use Rattle.farm_model.specs.World.{with_traffic_from}
use Rattle.farm_world.proofs.directions.post.Given as goal

abbrev pub invariant-loop-conn : goal.invariant-loop-conn
invariant-loop-conn l = l.directions.items ≡ with_traffic_from l.fn.node l.initial.directions.items l.yielded
