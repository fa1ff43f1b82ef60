use Rattle.farm_connections.proofs.Telling.{way_then}
use Rattle.farm_connections.proofs.serving.Serving.wake.Goals as goal

pub returns-clause-tells : goal.returns-clause-tells
returns-clause-tells g c = way_then c.wake_node.ensures.tells c.settle.ensures.tells

pub returns-clause-woken : goal.returns-clause-woken
returns-clause-woken g c = record { mid = c.wake_node.new.self; does = c.wake_node.ensures.reacts; settles = c.settle.ensures.settles }
