use Rattle.farm_node.specs.Events.{wake}
use Rattle.farm_connections.specs.Desks.{marks_of}
use Rattle.farm_connections.proofs.Telling.{other_way, way_still}
use Rattle.farm_connections.proofs.desk.Desk.wake_node.Goals as goal

pub returns-clause-tells : goal.returns-clause-tells
returns-clause-tells g c =
    way_still _ _ _
    (other_way c.args.self.now.node c.on_wake-reaction.new.self
    (marks_of c.args.self.now.links.items) c.args.self.now.made wake c.on_wake-reaction.result.out.items
    c.on_wake-reaction.result.outcome tt c.on_wake-reaction.ensures)
    c.react.ensures.kept
