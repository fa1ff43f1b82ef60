use Rattle.book_journal.proofs.Filled.{bare, bare_beside, bare_elsewhere}
use Rattle.book_journal.proofs.filling.fill.Goals as goal

pub returns-in-Ok-store_all-clause-stands : goal.returns-in-Ok-store_all-clause-stands
returns-in-Ok-store_all-clause-stands g c = λ clean.
    let book = c.args.book.now in
    let none = c.requires.none (c.in-Ok-store_all.ensures.clean clean) in
    c.in-Ok-store_all.ensures.stands clean (bare book) (bare_beside book (g.S.RowStore.beside c.args.store.now) none)
    (bare_elsewhere c.in-Ok.touched book c.in-Ok.ensures.accounts c.in-Ok.ensures.sessions)
