use Rattle.std.proofs.Common.{Result, Ok, Err}
use Rattle.std.specs.Prelude.{IfOk}
use Rattle.cc_book.proofs.terms.Terms.outcome_of.Goals as goal

-- what is so of each value where it is Ok
ok_so : {X E : Type 0} (P Q : X → Type 0) (result : Result X E) → ((x : X) → P x → Q x) → IfOk result P → IfOk result Q
ok_so P Q (Ok x) so ok = so x ok
ok_so P Q (Err e) so ok = tt

pub returns-in-Initial : goal.returns-in-Initial
returns-in-Initial g c = ok_so _ _ c.initial_outcome.result (λ outcome is before stands. is before c.in-Initial.is stands) c.initial_outcome.ensures

pub returns-in-Termination : goal.returns-in-Termination
returns-in-Termination g c = ok_so _ _ c.termination_outcome.result (λ outcome is before stands. is before c.args.moment c.in-Termination.is stands)
    c.termination_outcome.ensures

pub returns-in-Event : goal.returns-in-Event
returns-in-Event g c = ok_so _ _ c.event_outcome.result (λ outcome is before stands. is before c.args.moment c.in-Event.is stands) c.event_outcome.ensures
