-- What a search in a list finds, and what any, all or none of its items pass.
use Rattle.std.proofs.Common.{◌≡◌, Bool, true, false, cond, List, [], ◌∷◌, ◌++◌, Option, Some, None, inl, inr, refl, sym, subst, ap, ◌∙◌, arith}
use Rattle.std.specs.Prelude.{◌||◌, filter, count_by, option_map}
use Rattle.std.specs.List.{find, list_any, list_all}
use Rattle.std.proofs.lemmas.Bool.{and_parts}
use Rattle.std.proofs.lemmas.Option.{same_Some}
use Rattle.dia_base.proofs.Counting.{one, count-cons}
use Rattle.farm_law.specs.Lists.{Has, here, there}
use Rattle.farm_model.proofs.Lists.Among.{Has-cons}

-- ---- found

pub Has-found : {A : Type 0} (test : A → Bool) {x : A} (xs : List A) → find test xs ≡ Some x → Has x xs
Has-found test [] e = absurd cc
Has-found test {x} (y ∷ ys) e = go (Has-found test ys) (test y) e
  where
    go : (find test ys ≡ Some x → Has x ys) → (b : Bool) → cond b (Some y) (find test ys) ≡ Some x → Has x (y ∷ ys)
    go more true k = let same : y ≡ x = cc in subst (λ (z : _). Has z (y ∷ ys)) same here
    go more false k = there (more k)

pub find_none : {A : Type 0} (test : A → Bool) (xs : List A) → ((x : A) → Has x xs → test x ≡ false) → find test xs ≡ None
find_none test [] none = refl
find_none test (x ∷ xs) none = subst (λ (b : Bool). cond b (Some x) (find test xs) ≡ None) (sym (none x here)) (find_none test xs (λ y h. none y (there h)))

pub not_found : {A : Type 0} (test : A → Bool) {x : A} {xs : List A} → find test xs ≡ None → Has x xs → test x ≡ false
not_found test {x} e (here {xs}) = go (test x) e
  where
    go : (b : Bool) → cond b (Some x) (find test xs) ≡ None → b ≡ false
    go true k = absurd cc
    go false k = refl
not_found test {x} e (there {y} {xs} h) = go (test y) (λ k. not_found test k h) e
  where
    go : (b : Bool) → (find test xs ≡ None → test x ≡ false) → cond b (Some y) (find test xs) ≡ None → test x ≡ false
    go true more k = absurd cc
    go false more k = more k

-- what is made of the item that is found
pub found_mapped : {A B : Type 0} (f : A → B) (test : A → Bool) (xs : List A) {y : B} → option_map f (find test xs) ≡ Some y → (x : A) ×
    (find test xs ≡ Some x) × (f x ≡ y)
found_mapped {A} f test xs {y} e = go (find test xs) refl e
  where
    go : (found : Option A) → find test xs ≡ found → option_map f found ≡ Some y → (x : A) × (find test xs ≡ Some x) × (f x ≡ y)
    go None is k = absurd cc
    go (Some x) is k = (x, is, same_Some _ _ k)

pub none_mapped : {A B : Type 0} (f : A → B) (test : A → Bool) (xs : List A) → option_map f (find test xs) ≡ None → find test xs ≡ None
none_mapped {A} f test xs e = go (find test xs) refl e
  where
    go : (found : Option A) → find test xs ≡ found → option_map f found ≡ None → find test xs ≡ None
    go None is k = is
    go (Some x) is k = absurd cc

-- the first that passes is the same with more items behind
pub find_before : {A : Type 0} (test : A → Bool) {x : A} (xs ys : List A) → find test xs ≡ Some x → find test (xs ++ ys) ≡ Some x
find_before test [] ys e = absurd cc
find_before test {x} (y ∷ xs) ys e = go (test y) (find_before test xs ys) e
  where
    go : (b : Bool) → (find test xs ≡ Some x → find test (xs ++ ys) ≡ Some x) → cond b (Some y) (find test xs) ≡ Some x → cond b (Some y)
        (find test (xs ++ ys)) ≡ Some x
    go true more k = k
    go false more k = more k

pub find_behind : {A : Type 0} (test : A → Bool) (xs ys : List A) → find test xs ≡ None → find test (xs ++ ys) ≡ find test ys
find_behind test [] ys e = refl
find_behind test (y ∷ xs) ys e = go (test y) (find_behind test xs ys) e
  where
    go : (b : Bool) → (find test xs ≡ None → find test (xs ++ ys) ≡ find test ys) → cond b (Some y) (find test xs) ≡ None → cond b (Some y)
        (find test (xs ++ ys)) ≡ find test ys
    go true more k = absurd cc
    go false more k = more k

-- it is the same where all that pass are left
pub find_kept : {A : Type 0} (test keep : A → Bool) {x : A} (xs : List A) → ((y : A) → test y ≡ true → keep y ≡ true) → find test xs ≡ Some x → find test
    (filter keep xs) ≡ Some x
find_kept test keep [] left e = absurd cc
find_kept {A} test keep {x} (y ∷ xs) left e = go (test y) refl (find_kept test keep xs left) e
  where
    kept : (c : Bool) → (find test xs ≡ Some x → find test (filter keep xs) ≡ Some x) → test y ≡ false → find test xs ≡ Some x → find test
        (cond c (y ∷ filter keep xs) (filter keep xs)) ≡ Some x
    kept true more f k = subst (λ (b : Bool). cond b (Some y) (find test (filter keep xs)) ≡ Some x) (sym f) (more k)
    kept false more f k = more k

    go : (b : Bool) → test y ≡ b → (find test xs ≡ Some x → find test (filter keep xs) ≡ Some x) → cond b (Some y) (find test xs) ≡ Some x → find test
        (cond (keep y) (y ∷ filter keep xs) (filter keep xs)) ≡ Some x
    go true t more k =
        let stays = subst (λ (c : Bool). find test (cond c (y ∷ filter keep xs) (filter keep xs)) ≡ cond (test y) (Some y) (find test (filter keep xs)))
        (sym (left y t)) refl in
        stays ∙ subst (λ (b : Bool). cond b (Some y) (find test (filter keep xs)) ≡ Some x) (sym t) k
    go false t more k = kept (keep y) more t k

-- ---- any, all

pub any_found : {A : Type 0} (test : A → Bool) (xs : List A) → list_any test xs ≡ true → (x : A) × (find test xs ≡ Some x)
any_found test [] e = absurd cc
any_found {A} test (y ∷ xs) e = go (test y) (any_found test xs) e
  where
    go : (b : Bool) → (list_any test xs ≡ true → (x : A) × (find test xs ≡ Some x)) → (b || list_any test xs) ≡ true → (x : A) ×
        (cond b (Some y) (find test xs) ≡ Some x)
    go true more k = (y, refl)
    go false more k = more k

pub any_has : {A : Type 0} (test : A → Bool) {x : A} {xs : List A} → Has x xs → test x ≡ true → list_any test xs ≡ true
any_has test (here {xs}) e = ap (λ (b : Bool). b || list_any test xs) e
any_has test (there {y} {xs} h) e = go (test y) (any_has test h e)
  where
    go : (b : Bool) → list_any test xs ≡ true → (b || list_any test xs) ≡ true
    go true k = refl
    go false k = k

pub any_none : {A : Type 0} (test : A → Bool) (xs : List A) → ((x : A) → Has x xs → test x ≡ false) → list_any test xs ≡ false
any_none test [] f = refl
any_none test (x ∷ xs) f = ap (λ (b : Bool). b || list_any test xs) (f x here) ∙ any_none test xs (λ y h. f y (there h))

pub all_has : {A : Type 0} (test : A → Bool) {x : A} {xs : List A} → list_all test xs ≡ true → Has x xs → test x ≡ true
all_has test {x} e (here {xs}) = (and_parts (test x) (list_all test xs) e).0
all_has test {x} e (there {y} {xs} h) = all_has test (and_parts (test y) (list_all test xs) e).1 h

pub none_pass : {A : Type 0} (test : A → Bool) (xs : List A) → ((x : A) → Has x xs → test x ≡ false) → count_by test xs ≡ 0
none_pass test [] f = refl
none_pass test (x ∷ xs) f =
    let more = none_pass test xs (λ y h. f y (there h)) in
    let this : one (test x) ≡ 0 = ap one (f x here) in
    omega (arith, count-cons test x xs)

pub does_not_pass : {A : Type 0} (test : A → Bool) {x : A} (xs : List A) → count_by test xs ≡ 0 → Has x xs → test x ≡ false
does_not_pass test [] e h = elim h [ ]
does_not_pass test {x} (y ∷ ys) e h = go (does_not_pass test ys) (test y) refl
  where
    go : (count_by test ys ≡ 0 → Has x ys → test x ≡ false) → (b : Bool) → test y ≡ b → test x ≡ false
    go more true is = let this : one (test y) ≡ 1 = ap one is in absurd (omega (arith, count-cons test y ys))
    go more false is = let this : one (test y) ≡ 0 = ap one is in let less : count_by test ys ≡ 0 = omega (arith, count-cons test y ys) in elim (Has-cons h)
        [ inl q ↦ ap test q ∙ is | inr k ↦ more less k ]
