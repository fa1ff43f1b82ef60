use Rattle.std.proofs.Common.{[], ◌∷◌, None, refl}
use Rattle.cc_view.specs.Answer.{refusal_of}
use Rattle.cc_view.specs.declared.code.ResultCode.TheVariants.{UnableToDeliver}
use Rattle.dia_avp.specs.AvpReading.{split_from, split_of}
use Rattle.relay_core.specs.RelayState.{with_rows}
use Rattle.relay_core.specs.RuleExample.{all_up, but_for, conn}
use Rattle.relay_core.specs.StepExample.{debit_on, of_c1}
use Rattle.relay_core.proofs.OnlyFailovers.{forgets, gives_up, sends_again, stays}
use Rattle.relay_core.proofs.step_examples.lost_connections_fail_over.Goals as goal

pub returns-clause-next : goal.returns-clause-next
unfolding split_of split_from
returns-clause-next c =
    sends_again (with_rows (debit_on 2 5 of_c1 ∷ []) all_up) (conn 2) (debit_on 2 5 of_c1).held (record { conn = conn 1; hop = 7 }) (conn 3)
    (refl, refl) refl refl (λ hop. refl) refl

pub returns-clause-none_up : goal.returns-clause-none_up
unfolding split_of split_from refusal_of
returns-clause-none_up c =
    gives_up (with_rows (debit_on 4 5 of_c1 ∷ []) (but_for 3 (but_for 2 all_up))) (conn 4) (debit_on 4 5 of_c1).held
    (record { conn = conn 1; hop = 7 }) UnableToDeliver (refl, refl) refl refl

pub returns-clause-no_origin : goal.returns-clause-no_origin
returns-clause-no_origin c = forgets (with_rows (debit_on 2 5 None ∷ []) all_up) (conn 2) (debit_on 2 5 None).held (refl, refl) refl

pub returns-clause-origin : goal.returns-clause-origin
returns-clause-origin c = stays (with_rows (debit_on 2 5 of_c1 ∷ []) all_up) (conn 1) (debit_on 2 5 None) refl refl
