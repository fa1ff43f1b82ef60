use Rattle.std.specs.Prelude.{IsSome}
use Rattle.sqlite_trees.specs.Tree.{Trees}
use Rattle.sqlite_trees.specs.View.{IsClean}
use Rattle.book_store.specs.Damage.{HasRead, KeepsShapes}
use Rattle.book_store.proofs.opening.count_rows.Given as goal

abbrev pub invariant-loop-place : goal.invariant-loop-place
invariant-loop-place g l =
    IsSome ((g.S.Store.view l.store).cursors 0)
    × (IsClean (g.S.Store.view l.store) → IsClean (g.S.Store.view l.fn.store))
    × (IsClean (g.S.Store.view l.store) → HasRead l.table (g.S.Store.view l.fn.store) (g.S.Store.view l.store) l.place)
    × ((db : Trees) → g.S.Store.recovers l.store db → g.S.Store.recovers l.fn.store db)
    × KeepsShapes (g.S.Store.view l.fn.store) (g.S.Store.view l.store)
