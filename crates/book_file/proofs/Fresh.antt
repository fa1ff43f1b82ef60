-- A database that was just opened.
use Rattle.std.proofs.Common.{◌≡◌, Result, Ok, Err, ap, subst, sym}
use Rattle.std.specs.Prelude.{IfOk}
use Rattle.sqlite_disk.specs.declared.Disk.{Ghosts}
use Rattle.sqlite_store.specs.declared.store.FileStore.{FileStore}
use Rattle.sqlite_store.specs.FileStore.{IsReady, view}
use Rattle.sqlite_trees.specs.Tree.{Trees}
use Rattle.sqlite_trees.specs.View.{IsClean}
use Rattle.book_beside.specs.Beside.{beside_in}
use Rattle.book_store.specs.Damage.{IsFresh}

pub found_fresh : {E D : Type 0} {g : Ghosts D} (r : Result (FileStore D g) E) (store : FileStore D g) → IsReady store → IfOk r (λ found. found ≡ store) → IfOk r (λ found. IsClean (view found) → IsFresh (view found))
found_fresh {D = D} {g = g} (Ok found) store ready same = λ clean.
    let mine : IsReady found = subst (λ (s : FileStore D g). IsReady s) (sym same) ready in
    record {
      is_open = mine.is_open clean;
      sound = mine.sound clean;
      settled = ap (λ (t : Trees). t 0) mine.clean;
      settled_book = ap (λ (t : Trees). t 1) mine.clean;
      settled_beside = ap beside_in mine.clean;
    }
found_fresh (Err e) store ready same = tt
