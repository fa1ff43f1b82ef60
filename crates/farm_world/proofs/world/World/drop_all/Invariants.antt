use Rattle.std.proofs.Common.{List, take}
use Rattle.farm_model.specs.Loss.{LossAt, DropAll}
use Rattle.farm_model.specs.Run.{TellsSame}
use Rattle.farm_world.proofs.world.World.drop_all.Given as goal

-- those before the index have dropped it
abbrev pub invariant-loop-peer : goal.invariant-loop-peer
invariant-loop-peer g l = record {
  known : (known : List LossAt) × DropAll l.node (take l.peer-index l.peers) l.fn.self known l.self;
  same : TellsSame l.fn.self l.self;
}
