use Rattle.front_core.proofs.Charges.{arrival_refused}
use Rattle.front_core.proofs.laws.an_arrival_is_refused_with_cause.Goals as goal

pub returns : goal.returns
returns c = arrival_refused
