use Rattle.cc_view.proofs.Examples.{debit_viewed, debit_answered}
use Rattle.cc_view.proofs.laws.first_debit.Goals as goal

pub returns : goal.returns
returns c = record { viewed = debit_viewed; answered = debit_answered }
