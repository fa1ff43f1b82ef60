use Rattle.std.proofs.Common.{◌≡◌, ◌++◌, length, take}
use Rattle.book_copy.specs.Copied.{IsBeginning}
use Rattle.book_store.specs.Table.{Stored, octets_in}
use Rattle.book_copy.proofs.rows.copy_batches.Given as goal

abbrev pub invariant-loop-place : goal.invariant-loop-place
invariant-loop-place g l = record {
  clean : g.A.RowStore.is_clean l.book → g.A.RowStore.is_clean l.fn.book;
  ready : g.A.RowStore.is_clean l.book → g.A.RowStore.is_ready l.book;
  same : g.A.RowStore.is_clean l.book → g.A.RowStore.rows l.book ≡ g.A.RowStore.rows l.fn.book;
  same_book : g.A.RowStore.is_clean l.book → g.A.RowStore.about l.book ≡ g.A.RowStore.about l.fn.book;
  same_beside : g.A.RowStore.is_clean l.book → g.A.RowStore.beside l.book ≡ g.A.RowStore.beside l.fn.book;
  count : g.A.RowStore.is_clean l.book → l.count ≡ length (g.A.RowStore.rows l.fn.book);
  unharmed : (left : Stored) → g.A.RowStore.may_leave l.book left → g.A.RowStore.may_leave l.fn.book left;
  reopens : g.A.RowStore.may_reopen l.fn.book → g.A.RowStore.may_reopen l.book;
  copy_clean : g.B.RowStore.is_clean l.copy → g.B.RowStore.is_clean l.fn.copy;
  copy_ready : g.B.RowStore.is_clean l.copy → g.B.RowStore.is_ready l.copy;
  copied : g.A.RowStore.is_clean l.book → g.B.RowStore.is_clean l.copy
      → g.B.RowStore.rows l.copy ++ octets_in l.waiting.items ≡ take l.place (g.A.RowStore.rows l.fn.book);
  copy_of : g.B.RowStore.is_clean l.copy → g.B.RowStore.about l.copy ≡ g.B.RowStore.about l.fn.copy;
  copy_beside : g.B.RowStore.is_clean l.copy → g.B.RowStore.beside l.copy ≡ g.B.RowStore.beside l.fn.copy;
  crash : g.A.RowStore.is_clean l.book → g.B.RowStore.is_clean l.copy → (left : Stored) → g.B.RowStore.may_leave l.copy left
      → IsBeginning (g.B.RowStore.about l.fn.copy) (g.A.RowStore.rows l.fn.book) (g.B.RowStore.beside l.fn.copy) left;
  copy_reopens : g.B.RowStore.may_reopen l.fn.copy → g.B.RowStore.may_reopen l.copy;
}
