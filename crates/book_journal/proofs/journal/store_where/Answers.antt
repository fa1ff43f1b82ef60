use Rattle.book_journal.proofs.Rows.{crash_in, kept_nowhere, kept_stored_in, on_ok3}
use Rattle.book_journal.proofs.journal.store_where.Goals as goal

pub returns-in-Some-clause-kept : goal.returns-in-Some-clause-kept
returns-in-Some-clause-kept g c =
    on_ok3 c.store_all.result _ _ _ _
    (λ ready appended stands sum left none empty kept.
    kept_stored_in g.S.RowStore.is_clean g.S.RowStore.is_ready g.S.RowStore.rows g.S.RowStore.beside c.args.store.now _ c.store_all.new.store c.args.rows.now left c.args.touched.now none sum c.args.book.now c.in-Some.is empty c.store_all.ensures.clean ready appended stands kept)
    c.store_all.ensures.ready c.store_all.ensures.appended c.store_all.ensures.stands

pub returns-in-Some-clause-crash : goal.returns-in-Some-clause-crash
returns-in-Some-clause-crash g c = λ sum kept.
    crash_in g.S.RowStore.is_clean g.S.RowStore.is_ready g.S.RowStore.rows g.S.RowStore.beside g.S.RowStore.may_leave g.S.RowStore.about c.args.store.now _ c.store_all.new.store c.args.rows.now c.args.touched.now sum c.args.book.now c.in-Some.is c.store_all.ensures.clean c.store_all.ensures.crash kept

pub returns-in-None-clause-kept : goal.returns-in-None-clause-kept
returns-in-None-clause-kept g c = λ sum left none empty kept.
    kept_nowhere g.S.RowStore.is_clean g.S.RowStore.is_ready g.S.RowStore.rows g.S.RowStore.beside c.args.store.now c.args.rows.now left c.args.touched.now none sum c.args.book.now c.in-None.is empty kept
