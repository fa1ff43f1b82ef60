use Rattle.std.proofs.Common.{◌≡◌, ◌+◌, drop}
use Rattle.sqlite_trees.specs.Tree.{Trees}
use Rattle.sqlite_trees.specs.View.{IsClean}
use Rattle.sqlite_trees.specs.declared.store.Shape.TheVariants.{Table}
use Rattle.book_beside.specs.Beside.{beside_in}
use Rattle.book_store.specs.Damage.{KeepsShapes}
use Rattle.book_store.specs.Table.{octets_in, put_from}
use Rattle.book_store.proofs.tree.put_all.Given as goal

abbrev pub invariant-loop-octets : goal.invariant-loop-octets
invariant-loop-octets g l =
    (l.next ≡ l.place + l.octets-index)
    × (IsClean (g.S.Store.view l.store) → put_from l.next (octets_in (drop l.octets-index l.batch)) ((g.S.Store.view l.store).trees 0) ≡ put_from l.place (octets_in l.batch) ((g.S.Store.view l.fn.store).trees 0))
    × (IsClean (g.S.Store.view l.store) → (g.S.Store.view l.store).shape 0 ≡ Table)
    × (IsClean (g.S.Store.view l.store) → (g.S.Store.view l.store).is_open ≡ (g.S.Store.view l.fn.store).is_open)
    × (IsClean (g.S.Store.view l.store) → IsClean (g.S.Store.view l.fn.store))
    × ((db : Trees) → g.S.Store.recovers l.store db → g.S.Store.recovers l.fn.store db)
    × (IsClean (g.S.Store.view l.store) → (g.S.Store.view l.store).trees 1 ≡ (g.S.Store.view l.fn.store).trees 1)
    × (IsClean (g.S.Store.view l.store) → beside_in (g.S.Store.view l.store).trees ≡ beside_in (g.S.Store.view l.fn.store).trees)
    × KeepsShapes (g.S.Store.view l.fn.store) (g.S.Store.view l.store)
