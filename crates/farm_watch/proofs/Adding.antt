-- AVPs that are written one after the other.
use Rattle.std.proofs.Common.{◌≡◌, ℕ, ◌+◌, ◌<◌, List, [], ◌∷◌, ◌++◌, Result, get_or, length, take, subst, append_assoc}
use Rattle.std.specs.Prelude.{flat_map, OnOk}
use Rattle.std.proofs.lemmas.List.{append-nil, take_more}
use Rattle.std.proofs.lemmas.List.Concat.{flat_map-append}

-- the same list by another name
pub OnOk-same : {E : Type 0} (r : Result (Unit {0}) E) (new a b : List ℕ) → OnOk r (new ≡ a) → a ≡ b → OnOk r (new ≡ b)
OnOk-same r new a b h e = subst (λ (x : List ℕ). OnOk r (new ≡ x)) e h

-- two at once, and then four
pub six_added : {A : Type 0} (f : A → List ℕ) (x1 x2 x3 x4 x5 x6 : A) (b0 b1 b2 b3 b4 : List ℕ) → b1 ≡ b0 ++ flat_map f (x1 ∷ x2 ∷ []) → b2 ≡ b1 ++ f x3
    → b3 ≡ b2 ++ f x4 → b4 ≡ b3 ++ f x5
    → b4 ++ f x6 ≡ b0 ++ flat_map f (x1 ∷ x2 ∷ x3 ∷ x4 ∷ x5 ∷ x6 ∷ [])
six_added f x1 x2 x3 x4 x5 x6 b0 b1 b2 b3 b4 e1 e2 e3 e4 = rw (e4, e3, e2, e1) (simp (append_assoc, append-nil))

-- one behind another
pub two_added : {A : Type 0} (f : A → List ℕ) (x1 x2 : A) (b0 b1 : List ℕ) → b1 ≡ b0 ++ f x1 → b1 ++ f x2 ≡ b0 ++ flat_map f (x1 ∷ x2 ∷ [])
two_added f x1 x2 b0 b1 e1 = rw e1 (simp (append_assoc, append-nil))

-- a list behind another
pub list_added : {A : Type 0} (f : A → List ℕ) (xs ys : List A) (b0 b1 : List ℕ) → b1 ≡ b0 ++ flat_map f xs
    → b1 ++ flat_map f ys ≡ b0 ++ flat_map f (xs ++ ys)
list_added f xs ys b0 b1 e1 = rw e1 (simp (append_assoc, flat_map-append))

-- the list of one more item
pub next_added : {A X : Type 0} (f : A → List ℕ) (g : X → List A) (xs : List X) (i : ℕ) (d : X) (b0 b1 b2 : List ℕ) → i < length xs
    → b1 ≡ b0 ++ flat_map f (flat_map g (take i xs)) → b2 ≡ b1 ++ flat_map f (g (get_or xs i d))
    → b2 ≡ b0 ++ flat_map f (flat_map g (take (i + 1) xs))
next_added f g xs i d b0 b1 b2 lt e1 e2 =
    rw (e2, e1) (rw (take_more xs i d lt) (simp (flat_map-append, append-nil, append_assoc)))
