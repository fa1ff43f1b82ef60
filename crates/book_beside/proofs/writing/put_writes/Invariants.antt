use Rattle.std.proofs.Common.{◌≡◌, drop}
use Rattle.sqlite_trees.specs.View.{IsClean}
use Rattle.book_beside.specs.Beside.{HasBeside, IsUncommitted, beside_in, written_all}
use Rattle.book_beside.proofs.writing.put_writes.Given as goal

abbrev pub invariant-loop-write : goal.invariant-loop-write
invariant-loop-write g l =
    (IsClean (g.S.Store.view l.store) → written_all (beside_in (g.S.Store.view l.store).trees) (drop l.write-index l.writes) ≡ written_all (beside_in (g.S.Store.view l.fn.store).trees) l.writes)
    × (IsClean (g.S.Store.view l.store) → (g.S.Store.view l.store).trees 0 ≡ (g.S.Store.view l.fn.store).trees 0)
    × (IsClean (g.S.Store.view l.store) → (g.S.Store.view l.store).trees 1 ≡ (g.S.Store.view l.fn.store).trees 1)
    × (IsClean (g.S.Store.view l.store) → HasBeside (g.S.Store.view l.store))
    × (IsClean (g.S.Store.view l.store) → (g.S.Store.view l.store).is_open ≡ (g.S.Store.view l.fn.store).is_open)
    × IsUncommitted g.S.Store.view g.S.Store.recovers l.fn.store l.store
