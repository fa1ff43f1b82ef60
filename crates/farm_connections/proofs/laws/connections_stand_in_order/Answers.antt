use Rattle.farm_connections.proofs.Turning.{in_order}
use Rattle.farm_connections.proofs.laws.connections_stand_in_order.Goals as goal

pub returns : goal.returns
returns g c = λ node told kept goes. in_order node told kept goes
