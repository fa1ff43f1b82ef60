use Rattle.std.proofs.Common.{◌≡◌, refl}
use Rattle.cc_book.specs.Taking.{Ledger}
use Rattle.book_beside.specs.Beside.{written_all}
use Rattle.book_store.specs.Table.{octets_in}
use Rattle.book_journal.specs.Tables.{IsBeside, IsSameBut}
use Rattle.book_journal.proofs.Rows.{left_of_all, on_ok, stands_written}
use Rattle.book_journal.proofs.journal.store_all.Goals as goal

pub returns-clause-stands : goal.returns-clause-stands
returns-clause-stands g c =
    let old = g.S.RowStore.beside c.args.store.now in
    let new = g.S.RowStore.beside c.append_all.new.store in
    let writes = c.in-Ok.writes.items in
    on_ok c.append_all.result (g.S.RowStore.is_clean c.append_all.new.store → new ≡ written_all old c.deref.result.now)
    (g.S.RowStore.is_clean c.append_all.new.store → (was : Ledger) → IsBeside was old → IsSameBut c.args.touched.now was c.args.book.now → IsBeside c.args.book.now new)
    (λ written clean was stands same. stands_written c.args.book.now new old c.deref.result.now writes (written clean) c.deref.ensures.value (c.in-Ok.ensures was old same stands))
    c.append_all.ensures.written

pub returns-clause-crash : goal.returns-clause-crash
returns-clause-crash g c = λ clean left leaves was stands same all.
    let old = g.S.RowStore.beside c.args.store.now in
    let after = written_all old c.deref.result.now in
    left_of_all (g.S.RowStore.about c.args.store.now) (g.S.RowStore.rows c.args.store.now) (octets_in c.args.rows.now) old after c.args.book.now left all
    (stands_written c.args.book.now after old c.deref.result.now c.in-Ok.writes.items refl c.deref.ensures.value (c.in-Ok.ensures was old same stands))
    (c.append_all.ensures.crash clean left leaves)
