use Rattle.std.proofs.Common.{◌≡◌, ◌≤◌, ◌++◌, ℕ, take}
use Rattle.book_store.specs.Batches.{written_by, rows_of}
use Rattle.book_store.specs.Table.{Stored, stored_with}
use Rattle.book_store.proofs.batches.append_all.Given as goal

abbrev pub invariant-loop-batch : goal.invariant-loop-batch
invariant-loop-batch g l =
    (g.L.RowStore.is_clean l.store → g.L.RowStore.is_clean l.fn.store)
    × (g.L.RowStore.is_clean l.store → g.L.RowStore.is_ready l.store)
    × (g.L.RowStore.is_clean l.store → g.L.RowStore.rows l.store ≡ g.L.RowStore.rows l.fn.store ++ rows_of (take l.batch-index l.batches))
    × (g.L.RowStore.is_clean l.store → (left : Stored) → g.L.RowStore.may_leave l.store left
    → (n : ℕ) × (n ≤ l.batch-index) × (left ≡ stored_with (g.L.RowStore.about l.fn.store) (g.L.RowStore.rows l.fn.store ++ rows_of (take n l.batches)) (written_by (g.L.RowStore.beside l.fn.store) (take n l.batches))))
    × (g.L.RowStore.may_reopen l.fn.store → g.L.RowStore.may_reopen l.store)
    × (g.L.RowStore.is_clean l.store → g.L.RowStore.about l.store ≡ g.L.RowStore.about l.fn.store)
    × (g.L.RowStore.is_clean l.store → g.L.RowStore.beside l.store ≡ written_by (g.L.RowStore.beside l.fn.store) (take l.batch-index l.batches))
