use Rattle.answer_law.proofs.Refusals.{without_number-answered}
use Rattle.answer_law.proofs.laws.refusals_name_the_avp_at_fault.Goals as goal

pub returns : goal.returns
returns c = record { without_number = without_number-answered }
