use Rattle.std.proofs.Common.{ap}
use Rattle.farm_connections.specs.Desks.{marks_of}
use Rattle.farm_connections.proofs.Placing.{keeping}
use Rattle.farm_connections.proofs.Telling.{no_way}
use Rattle.farm_connections.proofs.serving.Serving.record_node.Goals as goal

pub returns-clause-tells : goal.returns-clause-tells
returns-clause-tells g c =
    no_way _ _
    (ap (λ node. keeping node (marks_of c.args.self.now.desk.links.items) c.args.self.now.desk.made) c.tell_events.ensures)
