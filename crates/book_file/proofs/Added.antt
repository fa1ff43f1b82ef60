-- Trees that are added to a database.
use Rattle.std.proofs.Common.{◌≡◌, ℕ, ◌≤◌, List, [], ◌∷◌, length, map, take, drop, refl, sym, ap, subst, ◌∙◌}
use Rattle.std.proofs.lemmas.List.{drop_all}
use Rattle.std.specs.Prelude.{◌≢◌}
use Rattle.std.specs.List.{AllByRecursion}
use Rattle.sqlite_value.specs.declared.value.Value.TheVariants.{Text}
use Rattle.sqlite_value.specs.Order.{Row, column}
use Rattle.sqlite_trees.specs.Objects.{Creates}
use Rattle.sqlite_trees.specs.View.{View}
use Rattle.sqlite_trees.specs.declared.schema.Object.{Object}
use Rattle.book_beside.specs.Beside.{Beside}
use Rattle.book_file.specs.Added.{HasNothingBeside}

name_in_front : (row : Row) → column (take 5 row) 2 ≡ column row 2
name_in_front [] = refl
name_in_front (a ∷ []) = refl
name_in_front (a ∷ b ∷ []) = refl
name_in_front (a ∷ b ∷ c ∷ row) = refl

-- the objects that are listed have the names that are listed
pub none_named : (name : List ℕ) (catalog : List Row) → AllByRecursion (λ r. column r 2 ≢ Text name) (map (take 5) catalog) → AllByRecursion (λ r. column r 2 ≢ Text name) catalog
none_named name [] all = all
none_named name (row ∷ catalog) all = ((λ is. all.0 (name_in_front row ∙ is)), none_named name catalog all.1)

-- no object is left that has a name, and none before had it
pub none_left : (name : List ℕ) (objects : List Row) (i : ℕ) → length objects ≤ i → (AllByRecursion (λ r. column r 2 ≢ Text name) (drop i objects) → AllByRecursion (λ r. column r 2 ≢ Text name) objects)
    → AllByRecursion (λ r. column r 2 ≢ Text name) objects
none_left name objects i le all =
    let P : List Row → Type 0 = λ rows. AllByRecursion (λ r. column r 2 ≢ Text name) rows in
    all (subst P (sym (drop_all i objects le)) tt)

of_lists : List Row → List Row → Beside
of_lists accounts sessions = record { accounts = accounts; sessions = sessions }

pub nothing_beside : (old one two : View) (accounts sessions : Object) → Creates old one 2 accounts → Creates one two 3 sessions → HasNothingBeside old.trees two.trees
unfolding of_lists
nothing_beside old one two accounts sessions first second =
    let no_accounts : two.trees 2 ≡ [] = ap (λ (v : View). v.trees 2) second.is ∙ ap (λ (v : View). v.trees 2) first.is in
    let no_sessions : two.trees 3 ≡ [] = ap (λ (v : View). v.trees 3) second.is in
    record {
      rows = ap (λ (v : View). v.trees 0) second.is ∙ ap (λ (v : View). v.trees 0) first.is;
      book = ap (λ (v : View). v.trees 1) second.is ∙ ap (λ (v : View). v.trees 1) first.is;
      beside = ap (λ (a : List Row). of_lists a (two.trees 3)) no_accounts ∙ ap (of_lists []) no_sessions;
    }
