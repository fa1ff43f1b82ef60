use Rattle.front_core.proofs.Charges.{answered-stays}
use Rattle.front_core.proofs.laws.answers_stay.Goals as goal

pub returns : goal.returns
returns c = answered-stays
