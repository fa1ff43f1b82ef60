-- Places of the first item that passes.
use Rattle.std.proofs.Common.{◌≡◌, ℕ, suc, ◌+◌, Bool, true, false, cond, not, List, [], ◌∷◌, ◌++◌, length, get_or, Option, Some, None, refl, sym}
use Rattle.std.proofs.Common.{subst, ap, ◌∙◌, arith, ltb}
use Rattle.std.specs.Prelude.{slice_get, slice_set, IfSome, IfNone}
use Rattle.std.specs.List.{find, position, position_or_len}
use Rattle.std.proofs.lemmas.List.Folds.{find_at}
use Rattle.std.proofs.lemmas.Option.{slice_get_past, slice_get_read}
use Rattle.std.proofs.lemmas.Bool.{ltb-true, ltb-false}
use Rattle.farm_base.specs.Lists.{replace_first, IsFirst}

replace_cons : {A : Type 0} (b : Bool) (x y : A) (ys rs : List A) (n : ℕ) → rs ≡ slice_set ys n x → cond b (x ∷ ys) (y ∷ rs) ≡ slice_set (y ∷ ys)
    (cond (not b) (1 + n) 0) x
replace_cons true x y ys rs n e = refl
replace_cons false x y ys rs n e =
    let one : suc n ≡ 1 + n = omega arith in
    ap (λ (zs : List _). y ∷ zs) e ∙ ap (λ (k : ℕ). slice_set (y ∷ ys) k x) one

pub replace_first-at : {A : Type 0} (test : A → Bool) (x : A) (xs : List A) → replace_first test x xs ≡ slice_set xs (position_or_len test xs) x
replace_first-at test x [] = refl
replace_first-at test x (y ∷ ys) = replace_cons (test y) x y ys (replace_first test x ys) (position_or_len test ys) (replace_first-at test x ys)

some_is : (b : Bool) (n i : ℕ) → cond b (Some n) None ≡ Some i → (b ≡ true) × (n ≡ i)
some_is true n i e = (refl, cc)
some_is false n i e = absurd cc

none_is : (b : Bool) (n : ℕ) → cond b (Some n) None ≡ None → b ≡ false
none_is true n e = absurd cc
none_is false n e = refl

-- what a search by place finds
pub place_first : {A : Type 0} (test : A → Bool) (xs : List A) (i : ℕ) → position test xs ≡ Some i → IsFirst test xs i
place_first test xs i e =
    let found = some_is (ltb (position_or_len test xs) (length xs)) (position_or_len test xs) i e in
    subst (λ (k : ℕ). IsFirst test xs k) found.1 (record {
      within = ltb-true (position_or_len test xs) (length xs) found.0;
      item = find_at test xs;
      change = λ x. replace_first-at test x xs;
    })

pub place_none : {A : Type 0} (test : A → Bool) (xs : List A) → position test xs ≡ None → find test xs ≡ None
place_none test xs e =
    find_at test xs ∙ slice_get_past xs (position_or_len test xs)
    (ltb-false _ _ (none_is (ltb (position_or_len test xs) (length xs)) (position_or_len test xs) e))

-- the same for an answer
pub found_first : {A : Type 0} (test : A → Bool) (xs : List A) (r : Option ℕ) → r ≡ position test xs → IfSome r (IsFirst test xs)
found_first test xs None e = tt
found_first test xs (Some i) e = place_first test xs i (sym e)

pub found_none : {A : Type 0} (test : A → Bool) (xs : List A) (r : Option ℕ) → r ≡ position test xs → IfNone r (find test xs ≡ None)
found_none test xs None e = place_none test xs (sym e)
found_none test xs (Some i) e = tt

-- what stands at the place of the first that passes
pub first_item : {A : Type 0} (test : A → Bool) (xs : List A) (place : ℕ) (x : A) → IsFirst test xs place → x ≡ get_or xs place x → find test xs ≡ Some x
first_item test xs place x first read = first.item ∙ slice_get_read xs (length xs) place x refl first.within read

-- what stands behind a list
pub slice_get-behind : {A : Type 0} (before : List A) (x : A) (after : List A) → slice_get (before ++ x ∷ after) (length before) ≡ Some x
slice_get-behind [] x after = refl
slice_get-behind (first ∷ before) x after = slice_get-behind before x after
