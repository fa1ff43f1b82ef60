use Rattle.std.proofs.Common.{◌≡◌, ◌<◌, ℕ, [], get_or}
use Rattle.std.specs.Prelude.{Some}
use Rattle.book_beside.specs.Beside.{table_of}
use Rattle.book_store.specs.Table.{rows_in}
use Rattle.book_journal.specs.Tables.{standing}
use Rattle.book_journal.proofs.filling.check_table.Given as goal

abbrev pub invariant-loop-place : goal.invariant-loop-place
invariant-loop-place g l = record {
  clean : g.S.RowStore.is_clean l.store → g.S.RowStore.is_clean l.fn.store;
  ready : g.S.RowStore.is_clean l.store → g.S.RowStore.is_ready l.store;
  same : g.S.RowStore.is_clean l.store → g.S.RowStore.rows l.store ≡ g.S.RowStore.rows l.fn.store;
  same_book : g.S.RowStore.is_clean l.store → g.S.RowStore.about l.store ≡ g.S.RowStore.about l.fn.store;
  same_beside : g.S.RowStore.is_clean l.store → g.S.RowStore.beside l.store ≡ g.S.RowStore.beside l.fn.store;
  alike : g.S.RowStore.is_clean l.store → (q : ℕ) → q < l.place → standing l.side l.book q ≡ Some (get_or (rows_in (table_of l.side (g.S.RowStore.beside l.fn.store))) q []);
}
