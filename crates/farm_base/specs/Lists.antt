-- The first item of a list that passes a test; items that are distinct.
use Rattle.std.specs.Prelude.{◌≡◌, ℕ, ◌<◌, Bool, true, not, ◌&&◌, cond, List, [], ◌∷◌, length, slice_get, slice_set}
use Rattle.std.specs.List.{find, list_any}

-- the list with x in place of the first item that passes
abbrev pub replace_first : {A : Type 0} → (A → Bool) → A → List A → List A
replace_first test x [] = []
replace_first test x (y ∷ ys) = cond (test y) (x ∷ ys) (y ∷ replace_first test x ys)

-- the first item that passes stands at this place
pub record IsFirst {A : Type 0} (test : A → Bool) (xs : List A) (place : ℕ) : Type 0 where
  pub within : place < length xs
  pub item : find test xs ≡ slice_get xs place
  pub change : (x : A) → replace_first test x xs ≡ slice_set xs place x

-- no item is the same as one behind it
abbrev pub are_distinct : {A : Type 0} → (A → A → Bool) → List A → Bool
are_distinct same [] = true
are_distinct same (x ∷ xs) = not (list_any (same x) xs) && are_distinct same xs
