use Rattle.std.proofs.Common.{◌≡◌, length, take}
use Rattle.book_entries.specs.Replayed.{stored_in, sum_in}
use Rattle.book_store.specs.Table.{Stored}
use Rattle.book_journal.specs.Kept.{IsUnder}
use Rattle.book_journal.proofs.opening.take_rows.Given as goal

abbrev pub invariant-loop-place : goal.invariant-loop-place
invariant-loop-place g l =
    (g.S.RowStore.is_clean l.store → g.S.RowStore.is_clean l.fn.store)
    × (g.S.RowStore.is_clean l.store → g.S.RowStore.is_ready l.store)
    × (g.S.RowStore.is_clean l.store → g.S.RowStore.rows l.store ≡ g.S.RowStore.rows l.fn.store)
    × (g.S.RowStore.is_clean l.store → l.count ≡ length (g.S.RowStore.rows l.fn.store))
    × (g.S.RowStore.is_clean l.store → stored_in l.book ≡ take l.place (g.S.RowStore.rows l.fn.store))
    × ((left : Stored) → g.S.RowStore.may_leave l.store left → g.S.RowStore.may_leave l.fn.store left)
    × (g.S.RowStore.may_reopen l.fn.store → g.S.RowStore.may_reopen l.store)
    × (g.S.RowStore.is_clean l.store → g.S.RowStore.about l.store ≡ g.S.RowStore.about l.fn.store)
    × IsUnder l.fn.book l.book
    × (l.sum.0 ≡ sum_in l.book)
    × (g.S.RowStore.is_clean l.store → g.S.RowStore.beside l.store ≡ g.S.RowStore.beside l.fn.store)
