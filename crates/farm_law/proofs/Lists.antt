-- Laws of what is among others, and of counts.
use Rattle.std.proofs.Common.{◌≡◌, ◌+◌, ◌≤◌, Bool, true, List, [], ◌∷◌, ◌++◌, inl, inr, ◌⊎◌, refl, arith, sym, subst, ap}
use Rattle.std.specs.List.{count_by}
use Rattle.std.proofs.lemmas.List.Sums.{sum_by_push}
use Rattle.dia_base.proofs.Counting.{one, count-cons}
use Rattle.farm_law.specs.Lists.{Has, here, there, Without, first, later, Left, nothing, stays, goes}

-- ---- counts

-- one more at the end
pub count-end : {A : Type 0} (test : A → Bool) (xs : List A) (x : A) → count_by test (xs ++ x ∷ []) ≡ count_by test xs + one (test x)
count-end test xs x = sum_by_push (λ y. one (test y)) xs x

pub count-without : {A : Type 0} (test : A → Bool) {x : A} {xs ys : List A} → Without x xs ys → count_by test xs ≡ one (test x) + count_by test ys
count-without test {x} (first {xs = xs}) = count-cons test x xs
count-without test {x} (later {y = y} {xs = xs} {ys = ys} h) =
    let e = count-without test h in
    omega (arith, count-cons test y xs, count-cons test y ys)

pub count-has : {A : Type 0} (test : A → Bool) {x : A} {xs : List A} → Has x xs → test x ≡ true → 1 ≤ count_by test xs
count-has test {x} (here {xs = xs}) e = let k = ap one e in omega (arith, count-cons test x xs)
count-has test {x} (there {y = y} {xs = xs} h) e = let k = count-has test h e in omega (arith, count-cons test y xs)

-- what is left counts no more
pub count-left : {A : Type 0} {Gone : A → Type 0} (test : A → Bool) {xs ys : List A} → Left Gone xs ys → count_by test ys ≤ count_by test xs
count-left test nothing = omega arith
count-left test (stays {x = x} {xs = xs} {ys = ys} h) = let k = count-left test h in omega (arith, count-cons test x xs, count-cons test x ys)
count-left test (goes {x = x} {xs = xs} gone h) = let k = count-left test h in omega (arith, count-cons test x xs)

-- and no less, where what is gone did not count
pub count-left_same : {A : Type 0} {Gone : A → Type 0} (test : A → Bool) {xs ys : List A} → ((x : A) → Gone x → one (test x) ≡ 0) →
    Left Gone xs ys → count_by test ys ≡ count_by test xs
count-left_same test none nothing = refl
count-left_same test none (stays {x = x} {xs = xs} {ys = ys} h) = let k = count-left_same test none h in
    omega (arith, count-cons test x xs, count-cons test x ys)
count-left_same test none (goes {x = x} {xs = xs} gone h) = let k = count-left_same test none h in let z = none x gone in omega (arith, count-cons test x xs)

-- ---- what is among others

pub Has-without : {A : Type 0} {x : A} {xs ys : List A} → Without x xs ys → Has x xs
Has-without first = here
Has-without (later h) = there (Has-without h)

pub Has-more : {A : Type 0} {x y : A} {xs ys : List A} → Without x xs ys → Has y ys → Has y xs
Has-more first h = there h
Has-more (later k) here = here
Has-more (later k) (there h) = there (Has-more k h)

pub Has-split : {A : Type 0} {x y : A} {xs ys : List A} → Without x xs ys → Has y xs → (y ≡ x) ⊎ Has y ys
Has-split first here = inl refl
Has-split first (there h) = inr h
Has-split (later k) here = inr here
Has-split (later k) (there h) = elim (Has-split k h) [ inl e ↦ inl e | inr g ↦ inr (there g) ]

pub Has-end : {A : Type 0} {x y : A} (xs : List A) → Has y (xs ++ x ∷ []) → Has y xs ⊎ (y ≡ x)
Has-end [] here = inr refl
Has-end [] (there h) = elim h [ ]
Has-end (z ∷ xs) here = inl here
Has-end (z ∷ xs) (there h) = elim (Has-end xs h) [ inl g ↦ inl (there g) | inr e ↦ inr e ]

pub Has-append : {A : Type 0} {y : A} {xs : List A} (ys : List A) → Has y xs → Has y (xs ++ ys)
Has-append ys here = here
Has-append ys (there h) = there (Has-append ys h)

pub Has-last : {A : Type 0} (x : A) (xs : List A) → Has x (xs ++ x ∷ [])
Has-last x [] = here
Has-last x (y ∷ xs) = there (Has-last x xs)

pub Has-left : {A : Type 0} {Gone : A → Type 0} {y : A} {xs ys : List A} → Left Gone xs ys → Has y ys → Has y xs
Has-left nothing h = h
Has-left (stays k) here = here
Has-left (stays k) (there h) = there (Has-left k h)
Has-left (goes gone k) h = there (Has-left k h)

-- what is not gone is left
pub Has-stays : {A : Type 0} {Gone : A → Type 0} {y : A} {xs ys : List A} → (Gone y → ⊥) → Left Gone xs ys → Has y xs → Has y ys
Has-stays not_gone nothing h = h
Has-stays not_gone (stays k) here = here
Has-stays not_gone (stays k) (there h) = there (Has-stays not_gone k h)
Has-stays not_gone (goes gone k) here = absurd (not_gone gone)
Has-stays not_gone (goes gone k) (there h) = Has-stays not_gone k h

pub all-end : {A : Type 0} (P : A → Type 0) (xs : List A) (x : A) → ((y : A) → Has y xs → P y) → P x → (y : A) → Has y (xs ++ x ∷ []) → P y
all-end P xs x all one_more y h = elim (Has-end xs h) [ inl g ↦ all y g | inr e ↦ subst P (sym e) one_more ]

pub all-in : {A : Type 0} (P : A → Type 0) {xs ys : List A} {x : A} → Without x xs ys → ((y : A) → Has y ys → P y) → P x → (y : A) → Has y xs → P y
all-in P w all one_more y h = elim (Has-split w h) [ inl e ↦ subst P (sym e) one_more | inr g ↦ all y g ]
