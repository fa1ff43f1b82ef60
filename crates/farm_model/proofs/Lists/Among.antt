-- What is among the items of a list, of its parts and of its map, and of what passes a test.
use Rattle.std.proofs.Common.{◌≡◌, ℕ, zero, suc, Bool, true, false, cond, List, [], ◌∷◌, ◌++◌, map, Some, inl, inr, refl, sym, subst, ap, ◌∙◌}
use Rattle.std.specs.Prelude.{◌⊎◌, Contains, slice_get, filter, All, slice_set}
use Rattle.std.proofs.lemmas.List.Elements.{Contains-append_left, Contains-append_right, Contains-push, All-cons, All-nil, All-contains}
use Rattle.farm_law.specs.Lists.{Has, here, there}

-- ---- in parts

pub Has-cons : {A : Type 0} {x y : A} {ys : List A} → Has x (y ∷ ys) → (x ≡ y) ⊎ Has x ys
Has-cons here = inl refl
Has-cons (there h) = inr h

pub Has-right : {A : Type 0} {x : A} (xs : List A) {ys : List A} → Has x ys → Has x (xs ++ ys)
Has-right [] h = h
Has-right (y ∷ xs) h = there (Has-right xs h)

pub Has-parts : {A : Type 0} {x : A} (xs : List A) {ys : List A} → Has x (xs ++ ys) → Has x xs ⊎ Has x ys
Has-parts [] h = inr h
Has-parts (y ∷ xs) here = inl here
Has-parts (y ∷ xs) (there h) = elim (Has-parts xs h) [ inl g ↦ inl (there g) | inr g ↦ inr g ]

-- ---- at a place

pub Has-get : {A : Type 0} {x : A} (xs : List A) (k : ℕ) → slice_get xs k ≡ Some x → Has x xs
Has-get [] k e = absurd cc
Has-get (y ∷ ys) zero e = let same : y ≡ _ = cc in subst (λ (z : _). Has z (y ∷ ys)) same here
Has-get (y ∷ ys) (suc k) e = there (Has-get ys k e)

pub Has-set : {A : Type 0} (y : A) {x : A} (xs : List A) (k : ℕ) → Has x (slice_set xs k y) → (x ≡ y) ⊎ Has x xs
Has-set y [] k h = inr h
Has-set y (z ∷ zs) zero h = elim (Has-cons h) [ inl e ↦ inl e | inr g ↦ inr (there g) ]
Has-set y (z ∷ zs) (suc k) h = elim (Has-cons h) [
  | inl e ↦ inr (subst (λ (v : _). Has v (z ∷ zs)) (sym e) here)
  | inr g ↦ elim (Has-set y zs k g) [ inl e ↦ inl e | inr i ↦ inr (there i) ]
]

-- ---- mapped and filtered

pub Has-map : {A B : Type 0} (f : A → B) {x : A} {xs : List A} → Has x xs → Has (f x) (map f xs)
Has-map f here = here
Has-map f (there h) = there (Has-map f h)

pub Has-unmap : {A B : Type 0} (f : A → B) {y : B} (xs : List A) → Has y (map f xs) → (x : A) × Has x xs × (f x ≡ y)
Has-unmap f [] h = elim h [ ]
Has-unmap f (x ∷ xs) h = elim (Has-cons h) [
  | inl q ↦ (x, here, sym q)
  | inr k ↦ let m = Has-unmap f xs k in (m.0, there m.1, m.2)
]

pub Has-filter : {A : Type 0} (test : A → Bool) {x : A} (xs : List A) → Has x (filter test xs) → Has x xs × (test x ≡ true)
Has-filter test [] h = elim h [ ]
Has-filter test {x} (y ∷ ys) h = go (Has-filter test ys) (test y) refl h
  where
    go : (Has x (filter test ys) → Has x ys × (test x ≡ true)) → (b : Bool) → test y ≡ b → Has x (cond b (y ∷ filter test ys) (filter test ys)) → Has x
        (y ∷ ys) × (test x ≡ true)
    go more true e g = elim (Has-cons g) [
      | inl q ↦ (subst (λ (z : _). Has z (y ∷ ys)) (sym q) here, ap test q ∙ e)
      | inr k ↦ let t = more k in (there t.0, t.1)
    ]
    go more false e g = let t = more g in (there t.0, t.1)

-- an item that passes is left
pub Has-kept : {A : Type 0} (test : A → Bool) {x : A} {xs : List A} → Has x xs → test x ≡ true → Has x (filter test xs)
Has-kept test {x} (here {xs}) e = subst (λ (b : Bool). Has x (cond b (x ∷ filter test xs) (filter test xs))) (sym e) here
Has-kept test {x} (there {y} {xs} h) e = go (test y) (Has-kept test h e)
  where
    go : (b : Bool) → Has x (filter test xs) → Has x (cond b (y ∷ filter test xs) (filter test xs))
    go true g = there g
    go false g = g

-- ---- in other words

pub Contains-has : {A : Type 0} {x : A} {xs : List A} → Has x xs → Contains xs x
Contains-has {x} (here {xs}) = Contains-append_left (x ∷ []) xs x (Contains-push [] x)
Contains-has {x} (there {y} {xs} h) = Contains-append_right (y ∷ []) xs x (Contains-has h)

pub all_of : {A : Type 0} (P : A → Type 0) (xs : List A) → ((x : A) → Has x xs → P x) → All P xs
all_of P [] f = All-nil P
all_of P (x ∷ xs) f = All-cons P x xs (f x here) (all_of P xs (λ y h. f y (there h)))

pub Has-contained : {A : Type 0} {x : A} {xs : List A} → Contains xs x → Has x xs
Has-contained {x} {xs} c = All-contains (λ y. Has y xs) xs x (all_of (λ y. Has y xs) xs (λ y h. h)) c
