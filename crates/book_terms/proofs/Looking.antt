-- An account is looked for from a place on, and then before it.
use Rattle.std.proofs.Common.{◌≡◌, ℕ, ◌||◌, Bool, true, false, List, Some, None, refl, ap, sym, ◌∙◌, ◌-◌, ◌<◌, arith, nat_lt, get_or, length, take, drop}
use Rattle.std.specs.List.{list_any, position, position_or_len}
use Rattle.std.proofs.Math.Seq.{take-length}
use Rattle.std.proofs.lemmas.Bool.{lt-ltb}
use Rattle.std.proofs.lemmas.List.{get_or-take, length-drop, length-take-le, take-append-drop}
use Rattle.std.proofs.lemmas.List.Folds.{list_any-append}
use Rattle.std.proofs.lemmas.List.Sums.{position_or_len_is}
use Rattle.dia_base.proofs.Finding.{none-position, none_passes, position-none}

parts : (a b : Bool) → a ≡ false → b ≡ false → (a || b) ≡ false
parts true b e f = absurd cc
parts false b e f = f

-- a slice from a place on
rest : {X : Type 0} (xs : List X) (n : ℕ) → take (length xs - n) (drop n xs) ≡ drop n xs
rest xs n = ap (λ (m : ℕ). take m (drop n xs)) (sym (length-drop n xs)) ∙ take-length (drop n xs)

-- in neither part, nowhere
pub in_neither : {X : Type 0} (p : X → Bool) (xs : List X) (n : ℕ) → position p (take (length xs - n) (drop n xs)) ≡ None → position p (take n xs) ≡ None → list_any p xs ≡ false
in_neither p xs n behind before =
    ap (list_any p) (sym (take-append-drop n xs)) ∙ list_any-append p (take n xs) (drop n xs)
    ∙ parts _ _ (position-none p (take n xs) before) (position-none p (drop n xs) (ap (position p) (sym (rest xs n)) ∙ behind))

some_in_by : {X : Type 0} (p : X → Bool) (xs : List X) (n : ℕ) (b : Bool) → list_any p xs ≡ b → position p xs ≡ Some n → b ≡ true
some_in_by p xs n true is e = refl
some_in_by p xs n false is e = let none : position p xs ≡ None = none-position p xs is in absurd cc

some_in : {X : Type 0} (p : X → Bool) (xs : List X) (n : ℕ) → position p xs ≡ Some n → list_any p xs ≡ true
some_in p xs n e = some_in_by p xs n (list_any p xs) refl e

left : (a b : Bool) → a ≡ true → (a || b) ≡ true
left true b e = refl
left false b e = absurd cc

right : (a b : Bool) → b ≡ true → (a || b) ≡ true
right true b e = refl
right false b e = e

pub found_behind : {X : Type 0} (p : X → Bool) (xs : List X) (n m : ℕ) → position p (take (length xs - n) (drop n xs)) ≡ Some m → list_any p xs ≡ true
found_behind p xs n m e =
    ap (list_any p) (sym (take-append-drop n xs)) ∙ list_any-append p (take n xs) (drop n xs) ∙ right (list_any p (take n xs)) _ (some_in p (drop n xs) m (ap (position p) (sym (rest xs n)) ∙ e))

pub found_before : {X : Type 0} (p : X → Bool) (xs : List X) (n m : ℕ) → position p (take n xs) ≡ Some m → list_any p xs ≡ true
found_before p xs n m e =
    ap (list_any p) (sym (take-append-drop n xs)) ∙ list_any-append p (take n xs) (drop n xs) ∙ left (list_any p (take n xs)) _ (some_in p (take n xs) m e)

-- the first that passes
pub first_at : {X : Type 0} (p : X → Bool) (xs : List X) (i : ℕ) (d : X) → i < length xs → list_any p (take i xs) ≡ false → p (get_or xs i d) ≡ true → position p xs ≡ Some i
first_at p xs i d below none passes =
    let long : length (take i xs) ≡ i = length-take-le i xs (omega arith) in
    let at : position_or_len p xs ≡ i =
    position_or_len_is p xs i d (omega arith) (λ k lt. ap p (sym (get_or-take i xs k d lt)) ∙ none_passes p (take i xs) none k d (omega arith)) (λ _. passes) in
    let tested : nat_lt i (length xs) ≡ true = lt-ltb i (length xs) below in
    rw at (rw tested refl)
