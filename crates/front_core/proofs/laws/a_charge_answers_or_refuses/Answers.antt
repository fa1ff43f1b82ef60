use Rattle.front_core.proofs.Charges.{answered_or_refused}
use Rattle.front_core.proofs.laws.a_charge_answers_or_refuses.Goals as goal

pub returns : goal.returns
returns c = answered_or_refused
