use Rattle.std.proofs.Common.{◌≡◌, List, false, length, refl, ap, rules}
use Rattle.std.specs.Prelude.{is_none}
use Rattle.cc_book.specs.Changing.{with_change}
use Rattle.cc_book.specs.declared.entry.Entry.{Entry}
use Rattle.book_journal.proofs.Next.{kept_sum, row_next}
use Rattle.book_journal.proofs.journal.Journal.row_of_change.Goals as goal

pub returns-clause-row : goal.returns-clause-row
returns-clause-row g c = λ kept.
    let journal = c.args.self.now in
    let ledger = c.args.book.now in
    let some : is_none journal.store ≡ false = search rules in
    let sum = kept_sum g.S.RowStore.is_clean g.S.RowStore.is_ready g.S.RowStore.rows g.S.RowStore.beside journal.store journal.waiting.items journal.touched journal.sum.0 ledger some kept in
    row_next journal.store c.touch_terms.new.self ledger (with_change ledger c.args.moment c.args.change.now) c.in_ok-row.row c.in_ok-row-2.row some (record { terms = refl; limit = refl }) (c.in_ok-touch_terms.ensures.covered c.args.moment)
    (c.in_ok-row.ensures.rows ledger (ap (λ (h : List Entry). length h) c.history.ensures.entries) sum) c.in_ok-row-2.ensures.octets c.in_ok-row-2.ensures.sum
