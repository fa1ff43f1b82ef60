use Rattle.std.proofs.Common.{◌≡◌, [], ◌∷◌, None, ap, refl, arith}
use Rattle.cc_view.specs.FirstDebit.{answer_message}
use Rattle.relay_hops.specs.declared.row.Row.{Row}
use Rattle.relay_hops.specs.PendingTable.{under}
use Rattle.relay_core.specs.RelayState.{with_rows}
use Rattle.relay_core.specs.RuleExample.{all_up, conn}
use Rattle.relay_core.specs.StepExample.{debit_on, of_c1}
use Rattle.relay_core.proofs.OnlySteps.{answers, drops, ignores, without_first, without_one, without_second}
use Rattle.relay_core.proofs.step_examples.answers_go_to_the_origin_under_its_identifier.Goals as goal

other_first : debit_on 3 5 None ≡ debit_on 2 5 of_c1 → ⊥
other_first e =
    let same : 3 ≡ 2 = ap (λ (row : Row). row.conn.0) e in omega (arith, same)

other_second : debit_on 2 5 of_c1 ≡ debit_on 3 5 None → ⊥
other_second e =
    let same : 2 ≡ 3 = ap (λ (row : Row). row.conn.0) e in omega (arith, same)

pub returns-clause-matched : goal.returns-clause-matched
returns-clause-matched c =
    answers (with_rows (debit_on 3 5 None ∷ debit_on 2 5 of_c1 ∷ []) all_up) (conn 2) (under 5 answer_message) (debit_on 2 5 of_c1).held
    (record { conn = conn 1; hop = 7 }) (debit_on 3 5 None ∷ []) refl refl (without_second (debit_on 3 5 None) (debit_on 2 5 of_c1) other_first)
    (record { before = debit_on 3 5 None ∷ []; after = []; without = refl; whole = refl })

pub returns-clause-alone : goal.returns-clause-alone
returns-clause-alone c =
    answers (with_rows (debit_on 2 5 of_c1 ∷ []) all_up) (conn 2) (under 5 answer_message) (debit_on 2 5 of_c1).held
    (record { conn = conn 1; hop = 7 }) [] refl refl (without_one (debit_on 2 5 of_c1)) (record { before = []; after = []; without = refl; whole = refl })

pub returns-clause-orphaned : goal.returns-clause-orphaned
returns-clause-orphaned c =
    drops (with_rows (debit_on 3 5 None ∷ debit_on 2 5 of_c1 ∷ []) all_up) (conn 3) (under 5 answer_message) (debit_on 3 5 None).held
    (debit_on 2 5 of_c1 ∷ []) refl refl (without_first (debit_on 3 5 None) (debit_on 2 5 of_c1) other_second)
    (record { before = []; after = debit_on 2 5 of_c1 ∷ []; without = refl; whole = refl })

pub returns-clause-other_identifier : goal.returns-clause-other_identifier
returns-clause-other_identifier c = ignores (with_rows (debit_on 2 5 of_c1 ∷ []) all_up) (conn 2) (under 7 answer_message) refl

pub returns-clause-other_connection : goal.returns-clause-other_connection
returns-clause-other_connection c = ignores (with_rows (debit_on 2 5 of_c1 ∷ []) all_up) (conn 3) (under 5 answer_message) refl
