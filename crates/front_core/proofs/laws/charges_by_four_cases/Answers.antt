use Rattle.front_core.proofs.Charges.{charge_case}
use Rattle.front_core.proofs.laws.charges_by_four_cases.Goals as goal

pub returns : goal.returns
returns c = charge_case
