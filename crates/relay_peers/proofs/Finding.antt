-- What is found first in a list, against how many pass the test.
use Rattle.std.proofs.Common.{◌≡◌, ℕ, ◌+◌, ◌≤◌, Bool, true, false, cond, List, [], ◌∷◌, ◌++◌, Option, Some, None, refl, ap, sym, ◌∙◌, arith}
use Rattle.std.specs.List.{find, filter, count_by}
use Rattle.dia_base.proofs.Counting.{one, count-cons, count-filter, none_counted}

-- ---- more behind

abbrev pub or_else : {X : Type 0} → Option X → Option X → Option X
or_else None other = other
or_else (Some x) other = Some x

or_front : {X : Type 0} (b : Bool) (x : X) (found rest other : Option X) → found ≡ or_else rest other → cond b (Some x) found ≡ or_else (cond b (Some x) rest) other
or_front true x found rest other e = refl
or_front false x found rest other e = e

pub find_push : {X : Type 0} (p : X → Bool) (xs : List X) (x : X) → find p (xs ++ x ∷ []) ≡ or_else (find p xs) (cond (p x) (Some x) None)
find_push p [] x = refl
find_push p (y ∷ xs) x = or_front (p y) y (find p (xs ++ x ∷ [])) (find p xs) (cond (p x) (Some x) None) (find_push p xs x)

-- ---- what is found

counted_front : {X : Type 0} (q : X → Bool) (b : Bool) (y x : X) (rest : Option X) (n : ℕ) → q x ≡ true → cond b (Some y) rest ≡ Some x → (rest ≡ Some x → 1 ≤ n) → 1 ≤ one (q y) + n
counted_front q true y x rest n passes e f =
    let same : y ≡ x = cc in
    let here : one (q y) ≡ 1 = ap one (ap q same ∙ passes) in
    omega arith
counted_front q false y x rest n passes e f = let more = f e in omega arith

counted : {X : Type 0} (p q : X → Bool) (xs : List X) (x : X) → find p xs ≡ Some x → q x ≡ true → 1 ≤ count_by q xs
counted p q [] x e passes = absurd cc
counted p q (y ∷ xs) x e passes =
    let more = counted_front q (p y) y x (find p xs) (count_by q xs) passes e (λ f. counted p q xs x f passes) in
    omega (arith, count-cons q y xs)

same_front : {X : Type 0} (q : X → Bool) (b c : Bool) (y x : X) (by_p by_q : Option X) (n : ℕ) → q y ≡ c → q x ≡ true → one c + n ≤ 1 → cond b (Some y) by_p ≡ Some x
    → (by_p ≡ Some x → 1 ≤ n) → (by_p ≡ Some x → n ≤ 1 → by_q ≡ Some x) → cond c (Some y) by_q ≡ Some x
same_front q true true y x by_p by_q n is passes le e some more = e
same_front q true false y x by_p by_q n is passes le e some more = let same : y ≡ x = cc in absurd (let both : false ≡ true = sym is ∙ ap q same ∙ passes in cc)
same_front q false true y x by_p by_q n is passes le e some more = let at_least = some e in absurd (omega arith)
same_front q false false y x by_p by_q n is passes le e some more = more e (omega arith)

-- what one test finds, another test that it alone passes finds too
pub found_by_both : {X : Type 0} (p q : X → Bool) (xs : List X) (x : X) → find p xs ≡ Some x → q x ≡ true → count_by q xs ≤ 1 → find q xs ≡ Some x
found_by_both p q [] x e passes le = absurd cc
found_by_both p q (y ∷ xs) x e passes le =
    let sum = count-cons q y xs in
    same_front q (p y) (q y) y x (find p xs) (find q xs) (count_by q xs) refl passes (omega arith) e (λ f. counted p q xs x f passes) (λ f small. found_by_both p q xs x f passes small)

-- ---- what a filter leaves

abbrev pub kept : {X : Type 0} → (X → Bool) → Option X → Option X
kept q None = None
kept q (Some x) = cond (q x) (Some x) None

filter_front : {X : Type 0} (p q : X → Bool) (b c : Bool) (x : X) (left : List X) (all : Option X) (n : ℕ) → p x ≡ b → q x ≡ c → one b + n ≤ 1
    → (n ≤ 1 → find p left ≡ kept q all) → (n ≡ 0 → find p left ≡ None) → find p (cond c (x ∷ left) left) ≡ kept q (cond b (Some x) all)
filter_front p q true true x left all n is_b is_c le more none = rw (is_b, is_c) refl
filter_front p q true false x left all n is_b is_c le more none = rw is_c (none (omega arith))
filter_front p q false true x left all n is_b is_c le more none = rw is_b (more (omega arith))
filter_front p q false false x left all n is_b is_c le more none = more (omega arith)

pub find-filter : {X : Type 0} (p q : X → Bool) (xs : List X) → count_by p xs ≤ 1 → find p (filter q xs) ≡ kept q (find p xs)
find-filter p q [] le = refl
find-filter p q (x ∷ xs) le =
    let sum = count-cons p x xs in
    filter_front p q (p x) (q x) x (filter q xs) (find p xs) (count_by p xs) refl refl (omega arith) (find-filter p q xs)
    (λ e. none_counted p (filter q xs) (omega (arith, count-filter p q xs)))
