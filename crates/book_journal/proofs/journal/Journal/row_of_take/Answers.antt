use Rattle.std.proofs.Common.{◌≡◌, ◌∷◌, ◌++◌, Bool, false, refl, ap, ◌∙◌, rules}
use Rattle.std.specs.Prelude.{Option, is_none}
use Rattle.book_rows.specs.declared.row.Row.{Row}
use Rattle.cc_book.specs.Planning.{after_plan, answer_planned}
use Rattle.book_entries.specs.Rows.{one_or_none, rows_of}
use Rattle.book_journal.proofs.Next.{kept_sum, no_row_next, none_is_next, row_next, still_under}
use Rattle.book_journal.proofs.journal.Journal.row_of_take.Goals as goal

pub returns-in_default-clause-row : goal.returns-in_default-clause-row
returns-in_default-clause-row g c = λ good after kept.
    let journal = c.args.self.now in
    let ledger = c.args.book.now in
    let some : is_none journal.store ≡ false = search rules in
    let sum = kept_sum g.S.RowStore.is_clean g.S.RowStore.is_ready g.S.RowStore.rows g.S.RowStore.beside journal.store journal.waiting.items journal.touched journal.sum.0 ledger some kept in
    let fresh = (answer_planned c.args.plan.now).fresh in
    let now = after_plan ledger c.args.plan.now in
    no_row_next journal.store c.touch_plan.new.self ledger now c.in_ok-row.field-0 some c.in_default.not-Some (still_under fresh c.args.moment c.args.request.now ledger now after) (c.in_ok-touch_plan.ensures.covered good)
    (c.in_ok-row.ensures.rows ledger good after sum)

pub returns-clause-row : goal.returns-clause-row
returns-clause-row g c = λ good after kept.
    let journal = c.args.self.now in
    let ledger = c.args.book.now in
    let some : is_none journal.store ≡ false = search rules in
    let sum = kept_sum g.S.RowStore.is_clean g.S.RowStore.is_ready g.S.RowStore.rows g.S.RowStore.beside journal.store journal.waiting.items journal.touched journal.sum.0 ledger some kept in
    let fresh = (answer_planned c.args.plan.now).fresh in
    let now = after_plan ledger c.args.plan.now in
    row_next journal.store c.touch_plan.new.self ledger now c.in-Some.row c.in_ok-row-2.row some (still_under fresh c.args.moment c.args.request.now ledger now after) (c.in_ok-touch_plan.ensures.covered good)
    (c.in_ok-row.ensures.rows ledger good after sum ∙ ap (λ (o : Option Row). rows_of ledger.terms ledger.history ++ one_or_none o) c.in-Some.is) c.in_ok-row-2.ensures.octets c.in_ok-row-2.ensures.sum
