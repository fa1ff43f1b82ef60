use Rattle.std.proofs.Common.{Result, Ok, Err, sym, refl, ◌∙◌}
use Rattle.std.specs.Prelude.{OnOk}
use Rattle.book_opening.proofs.UnderTerms.{led_already, led_behind}
use Rattle.book_opening.proofs.renewing.renew_by.Goals as goal

-- what follows from what holds behind a call that is done
then : {T E P Q : Type 0} (result : Result T E) → (P → Q) → OnOk result P → OnOk result Q
then (Ok done) follows holds = follows holds
then (Err error) follows holds = tt

pub returns-then-says_nothing-clause-hold : goal.returns-then-says_nothing-clause-hold
returns-then-says_nothing-clause-hold g c = led_already c.args.book.now c.args.book.now c.args.change refl (sym c.says_nothing.ensures ∙ c.if-says_nothing.true)

pub returns-clause-hold : goal.returns-clause-hold
returns-clause-hold g c =
    then c.change_stored.result (led_behind c.args.book.now c.change_stored.new.book c.args.moment c.args.change) c.change_stored.ensures.changed
