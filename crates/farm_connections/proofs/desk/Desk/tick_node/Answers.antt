use Rattle.farm_node.specs.Events.{tick}
use Rattle.farm_connections.specs.Desks.{marks_of}
use Rattle.farm_connections.proofs.Telling.{other_way, way_still}
use Rattle.farm_connections.proofs.desk.Desk.tick_node.Goals as goal

pub returns-clause-tells : goal.returns-clause-tells
returns-clause-tells g c =
    way_still _ _ _
    (other_way c.args.self.now.node c.on_tick-reaction.new.self (marks_of c.args.self.now.links.items) c.args.self.now.made
    (tick c.args.moment) c.on_tick-reaction.result.out.items
    c.on_tick-reaction.result.outcome tt c.on_tick-reaction.ensures)
    c.react.ensures.kept
