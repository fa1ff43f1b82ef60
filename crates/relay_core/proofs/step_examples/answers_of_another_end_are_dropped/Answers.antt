use Rattle.std.proofs.Common.{[], ◌∷◌, refl}
use Rattle.cc_view.specs.FirstDebit.{answer_message}
use Rattle.relay_hops.specs.PendingTable.{under}
use Rattle.relay_core.specs.RelayState.{with_rows}
use Rattle.relay_core.specs.RuleExample.{all_up, conn}
use Rattle.relay_core.specs.StepExample.{debit_on, of_c1, of_end}
use Rattle.relay_core.proofs.OnlySteps.{answers, ignores, without_one}
use Rattle.relay_core.proofs.step_examples.answers_of_another_end_are_dropped.Goals as goal

pub returns-clause-another : goal.returns-clause-another
returns-clause-another c = λ items after. (λ e. e, λ e. e)

pub returns-clause-counted : goal.returns-clause-counted
returns-clause-counted c = refl

pub returns-clause-orphaned : goal.returns-clause-orphaned
returns-clause-orphaned c = λ items after. (λ e. e, λ e. e)

pub returns-clause-own : goal.returns-clause-own
returns-clause-own c =
    answers (with_rows (debit_on 2 5 of_c1 ∷ []) all_up) (conn 2) (under 5 answer_message) (debit_on 2 5 of_c1).held
    (record { conn = conn 1; hop = 7 }) [] refl refl (without_one (debit_on 2 5 of_c1)) (record { before = []; after = []; without = refl; whole = refl })

pub returns-clause-other_identifier : goal.returns-clause-other_identifier
returns-clause-other_identifier c = ignores (with_rows (debit_on 2 5 of_c1 ∷ []) all_up) (conn 2) (under 7 answer_message) refl

pub returns-clause-other_connection : goal.returns-clause-other_connection
returns-clause-other_connection c = ignores (with_rows (debit_on 2 5 of_c1 ∷ []) all_up) (conn 3) (under 5 answer_message) refl

pub returns-clause-not_compared : goal.returns-clause-not_compared
returns-clause-not_compared c =
    answers (with_rows (debit_on 2 5 of_c1 ∷ []) all_up) (conn 2) (of_end 101 (under 5 answer_message)) (debit_on 2 5 of_c1).held
    (record { conn = conn 1; hop = 7 }) [] refl refl (without_one (debit_on 2 5 of_c1)) (record { before = []; after = []; without = refl; whole = refl })
