use Rattle.std.proofs.Common.{[], ◌∷◌, refl}
use Rattle.cc_view.specs.FirstDebit.{answer_message}
use Rattle.dia_avp.specs.AvpReading.{split_from, split_of}
use Rattle.relay_hops.specs.PendingTable.{under}
use Rattle.relay_core.specs.RelayState.{with_rows}
use Rattle.relay_core.specs.RuleExample.{all_up, conn}
use Rattle.relay_core.specs.StepExample.{debit_on, of_c1}
use Rattle.relay_core.proofs.OnlySteps.{answers, without_one}
use Rattle.relay_core.proofs.step_examples.requests_go_past_who_leaves.Goals as goal

pub returns-clause-all : goal.returns-clause-all
unfolding split_of split_from
returns-clause-all c = refl

pub returns-clause-new : goal.returns-clause-new
unfolding split_of split_from
returns-clause-new c = refl

pub returns-clause-asker : goal.returns-clause-asker
unfolding split_of split_from
returns-clause-asker c = refl

pub returns-clause-again : goal.returns-clause-again
unfolding split_of split_from
returns-clause-again c = refl

pub returns-clause-answers : goal.returns-clause-answers
returns-clause-answers c =
    answers (with_rows (debit_on 2 5 of_c1 ∷ []) all_up) (conn 2) (under 5 answer_message) (debit_on 2 5 of_c1).held
    (record { conn = conn 1; hop = 7 }) [] refl refl (without_one (debit_on 2 5 of_c1)) (record { before = []; after = []; without = refl; whole = refl })
