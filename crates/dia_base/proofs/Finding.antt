-- What is found first in a list, and where.
use Rattle.std.proofs.Common.{◌≡◌, ℕ, ◌+◌, ◌||◌, Bool, true, false, not, cond, List, [], ◌∷◌, ◌++◌, length, get_or, Option, Some, None, refl, ap, sym, ◌∙◌}
use Rattle.std.specs.Option.{is_none}
use Rattle.std.specs.List.{All, find, list_any, position, position_from, slice_get}
use Rattle.std.proofs.lemmas.Bool.{false_from_ne_true, not-true}
use Rattle.std.proofs.lemmas.Iterator.Adapters.{position_from-zero}
use Rattle.std.proofs.lemmas.List.Folds.{list_any_at}

-- ---- by parts

-- the first element that passes, between those before it and those behind
pub record IsFirst {X : Type 0} (p : X → Bool) (xs : List X) (x : X) : Type 0 where
  pub before : List X
  pub after : List X
  pub among : xs ≡ before ++ x ∷ after
  pub passes : p x ≡ true
  pub first : list_any p before ≡ false

first_here : {X : Type 0} (p : X → Bool) (b : Bool) (y x : X) (ys : List X) (rest : Option X) → p y ≡ b → cond b (Some y) rest ≡ Some x → (rest ≡ Some x → IsFirst p ys x) → IsFirst p (y ∷ ys) x
first_here p true y x ys rest is e more =
    let same : y ≡ x = cc in
    record { before = []; after = ys; among = ap (λ z. z ∷ ys) same; passes = ap p (sym same) ∙ is; first = refl }
first_here p false y x ys rest is e more =
    let found = more e in
    record { before = y ∷ found.before; after = found.after; among = ap (λ zs. y ∷ zs) found.among; passes = found.passes; first = ap (λ b. b || list_any p found.before) is ∙ found.first }

pub found_first : {X : Type 0} (p : X → Bool) (xs : List X) (x : X) → find p xs ≡ Some x → IsFirst p xs x
found_first p [] x e = absurd cc
found_first p (y ∷ ys) x e = first_here p (p y) y x ys (find p ys) refl e (found_first p ys x)

pub found_passes : {X : Type 0} (p : X → Bool) (xs : List X) (x : X) → find p xs ≡ Some x → p x ≡ true
found_passes p xs x e = (found_first p xs x e).passes

-- what stands behind a list
pub slice_get-behind : {X : Type 0} (before : List X) (x : X) (after : List X) → slice_get (before ++ x ∷ after) (length before) ≡ Some x
slice_get-behind [] x after = refl
slice_get-behind (first ∷ before) x after = slice_get-behind before x after

-- ---- none passes

-- what no element passes, each fails
pub none_passes : {X : Type 0} (p : X → Bool) (xs : List X) → list_any p xs ≡ false → All (λ x. p x ≡ false) xs
none_passes p xs none k d lt = false_from_ne_true (p (get_or xs k d)) (λ e. let some = list_any_at p xs k d lt e in absurd cc)

is_no : (b : Bool) → true ≡ not b → b ≡ false
is_no b e = not-true b (sym e)

is_nothing : {X : Type 0} (o : Option X) → is_none o ≡ true → o ≡ None
is_nothing None e = refl
is_nothing (Some x) e = absurd cc

found_or : {X : Type 0} (b r : Bool) (x : X) (o : Option X) → is_none o ≡ not r → is_none (cond b (Some x) o) ≡ not (b || r)
found_or true r x o e = refl
found_or false r x o e = e

found : {X : Type 0} (p : X → Bool) (xs : List X) → is_none (find p xs) ≡ not (list_any p xs)
found p [] = refl
found p (x ∷ xs) = found_or (p x) (list_any p xs) x (find p xs) (found p xs)

found_from : {X : Type 0} (p : X → Bool) (i : ℕ) (xs : List X) → is_none (position_from p i xs) ≡ not (list_any p xs)
found_from p i [] = refl
found_from p i (x ∷ xs) = found_or (p x) (list_any p xs) i (position_from p (i + 1) xs) (found_from p (i + 1) xs)

found_at : {X : Type 0} (p : X → Bool) (xs : List X) → is_none (position p xs) ≡ not (list_any p xs)
found_at p xs = ap is_none (position_from-zero p xs) ∙ found_from p 0 xs

pub find-none : {X : Type 0} (p : X → Bool) (xs : List X) → find p xs ≡ None → list_any p xs ≡ false
find-none p xs e = is_no (list_any p xs) (sym (ap is_none e) ∙ found p xs)

pub none-find : {X : Type 0} (p : X → Bool) (xs : List X) → list_any p xs ≡ false → find p xs ≡ None
none-find p xs e = is_nothing (find p xs) (found p xs ∙ ap not e)

pub position-none : {X : Type 0} (p : X → Bool) (xs : List X) → position p xs ≡ None → list_any p xs ≡ false
position-none p xs e = is_no (list_any p xs) (sym (ap is_none e) ∙ found_at p xs)

pub none-position : {X : Type 0} (p : X → Bool) (xs : List X) → list_any p xs ≡ false → position p xs ≡ None
none-position p xs e = is_nothing (position p xs) (found_at p xs ∙ ap not e)
