use Rattle.farm_connections.proofs.Turning.{in_turn}
use Rattle.farm_connections.proofs.laws.nodes_are_told_in_turn.Goals as goal

pub returns : goal.returns
returns g c = λ node told kept goes. in_turn node told kept goes
