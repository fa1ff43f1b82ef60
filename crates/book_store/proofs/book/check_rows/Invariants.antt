use Rattle.std.proofs.Common.{◌≡◌, length, take, Some}
use Rattle.book_store.specs.Chain.{sum_of}
use Rattle.book_store.specs.Table.{Stored}
use Rattle.book_store.proofs.book.check_rows.Given as goal

abbrev pub invariant-loop-place : goal.invariant-loop-place
invariant-loop-place g l =
    (g.L.RowStore.is_clean l.store → g.L.RowStore.is_clean l.fn.store)
    × (g.L.RowStore.is_clean l.store → g.L.RowStore.is_ready l.store)
    × (g.L.RowStore.is_clean l.store → g.L.RowStore.rows l.store ≡ g.L.RowStore.rows l.fn.store)
    × (g.L.RowStore.is_clean l.store → l.count ≡ length (g.L.RowStore.rows l.fn.store))
    × (g.L.RowStore.is_clean l.store → sum_of 0 0 (take l.place (g.L.RowStore.rows l.fn.store)) ≡ Some l.sum.0)
    × ((left : Stored) → g.L.RowStore.may_leave l.store left → g.L.RowStore.may_leave l.fn.store left)
    × (g.L.RowStore.may_reopen l.fn.store → g.L.RowStore.may_reopen l.store)
    × (g.L.RowStore.is_clean l.store → g.L.RowStore.about l.store ≡ g.L.RowStore.about l.fn.store)
    × (g.L.RowStore.is_clean l.store → g.L.RowStore.beside l.store ≡ g.L.RowStore.beside l.fn.store)
