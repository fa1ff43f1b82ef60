use Rattle.std.proofs.Common.{Result, Ok, Err}
use Rattle.std.specs.Prelude.{IfErr, OnOk}
use Rattle.book_opening.proofs.UnderTerms.{is_renewed, is_why_not}
use Rattle.book_opening.proofs.renewing.renew.Goals as goal

-- what follows from what holds behind a call that is done, and of the error of one that is not
then : {T E P Q : Type 0} (result : Result T E) → (P → Q) → OnOk result P → OnOk result Q
then (Ok done) follows holds = follows holds
then (Err error) follows holds = tt

else_then : {T E : Type 0} {P Q : E → Type 0} (result : Result T E) → ((error : E) → P error → Q error) → IfErr result P → IfErr result Q
else_then (Ok done) follows holds = tt
else_then (Err error) follows holds = follows error holds

pub returns-clause-renewed : goal.returns-clause-renewed
returns-clause-renewed g c =
    then c.renew_by.result
    (is_renewed c.args.book.now c.renew_by.new.book c.args.wanted.now c.args.moment c.args.is_allowed c.in_ok-change.change c.in_ok-change.ensures.needed)
    c.renew_by.ensures.renewed

pub returns-clause-refused : goal.returns-clause-refused
returns-clause-refused g c =
    else_then c.renew_by.result (is_why_not c.args.book.now c.args.wanted.now c.args.is_allowed c.in_ok-change.change c.in_ok-change.ensures.needed) c.renew_by.ensures.refused

pub returns-clause-hold : goal.returns-clause-hold
returns-clause-hold g c =
    then c.renew_by.result (λ led. led c.args.wanted.now c.in_ok-change.ensures.needed) c.renew_by.ensures.hold
