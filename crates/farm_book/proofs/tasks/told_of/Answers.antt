use Rattle.std.proofs.Common.{Result, Ok, Err}
use Rattle.std.specs.Prelude.{IfOk}
use Rattle.farm_book.specs.Told.{IsTold}
use Rattle.farm_book.proofs.tasks.told_of.Goals as goal

-- what follows from what holds of the value of a call that is done
of_value : {T E : Type 0} {P Q : T → Type 0} (result : Result T E) → ((value : T) → P value → Q value) → IfOk result P → IfOk result Q
of_value (Ok value) follows holds = follows value holds
of_value (Err error) follows holds = tt

pub returns : goal.returns
returns c =
    let leads = c.in_ok-stored.ensures.leads in
    of_value c.text_of.result
    (λ text says. record { wanted = leads.0; are_wanted = leads.1; stored = c.in_ok-stored.stored; is_for = c.in_ok-stored.ensures.stored; change = c.in_ok-stored.change; leads = leads.2; says = says })
    c.text_of.ensures
