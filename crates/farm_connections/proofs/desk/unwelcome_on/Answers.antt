use Rattle.farm_connections.proofs.Misnaming.{kept_none, kept_with}
use Rattle.farm_connections.proofs.desk.unwelcome_on.Goals as goal

pub returns-in-Some : goal.returns-in-Some
returns-in-Some g c =
    kept_with c.with_node.result c.in_ok-misnamed.misnamed _ _ c.in-Some.node c.in-Some.is c.in_ok-misnamed.ensures c.with_node.ensures

pub returns-in-None : goal.returns-in-None
returns-in-None g c = kept_none c.in_ok-misnamed.misnamed _ _ c.in-None.is c.in_ok-misnamed.ensures
