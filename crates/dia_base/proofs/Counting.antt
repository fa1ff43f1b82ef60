-- How many elements of a list pass a test, and what is found by it.
use Rattle.std.proofs.Common.{◌≡◌, ℕ, ◌+◌, ◌≤◌, Bool, true, false, cond, ◌||◌, List, [], ◌∷◌, ◌++◌, map, Option, Some, None, refl, ap, sym, ◌∙◌, arith}
use Rattle.std.specs.List.{find, filter, count_by, list_any}
use Rattle.std.proofs.lemmas.List.Sums.{sum_by-cons, sum_by-append, sum_by_push}

abbrev pub one : Bool → ℕ
one b = cond {A = ℕ} b 1 0

pub count-cons : {X : Type 0} (p : X → Bool) (x : X) (xs : List X) → count_by p (x ∷ xs) ≡ one (p x) + count_by p xs
count-cons p x xs = sum_by-cons (λ y. one (p y)) x xs

-- where one element stands among others
pub count-among : {X : Type 0} (p : X → Bool) (x : X) (before after : List X) → count_by p (before ++ x ∷ after) ≡ one (p x) + count_by p (before ++ after)
count-among p x before after =
    omega (arith, sum_by-append (λ y. one (p y)) before (x ∷ after), sum_by-append (λ y. one (p y)) before after, count-cons p x after)

pub count-map : {X Y : Type 0} (p : Y → Bool) (f : X → Y) (xs : List X) → count_by p (map f xs) ≡ count_by (λ x. p (f x)) xs
count-map p f [] = refl
count-map p f (x ∷ xs) = count-cons p (f x) (map f xs) ∙ ap (λ n. one (p (f x)) + n) (count-map p f xs) ∙ sym (count-cons (λ y. p (f y)) x xs)

-- what passes one test passes the other, so no fewer pass the other
pub one-le : (b c : Bool) → (b ≡ true → c ≡ true) → one b ≤ one c
one-le true c f = let e : one c ≡ 1 = ap one (f refl) in omega arith
one-le false c f = omega arith

pub count-le : {X : Type 0} (p q : X → Bool) → ((x : X) → p x ≡ true → q x ≡ true) → (xs : List X) → count_by p xs ≤ count_by q xs
count-le p q f [] = omega arith
count-le p q f (x ∷ xs) =
    let head = one-le (p x) (q x) (f x) in
    let tail = count-le p q f xs in
    omega (arith, count-cons p x xs, count-cons q x xs)

dropped : {X : Type 0} (p : X → Bool) (b : Bool) (x : X) (kept : List X) (n : ℕ) → count_by p kept ≤ n → count_by p (cond b (x ∷ kept) kept) ≤ one (p x) + n
dropped p true x kept n le = omega (arith, count-cons p x kept)
dropped p false x kept n le = omega arith

pub count-filter : {X : Type 0} (p q : X → Bool) (xs : List X) → count_by p (filter q xs) ≤ count_by p xs
count-filter p q [] = omega arith
count-filter p q (x ∷ xs) =
    let less = dropped p (q x) x (filter q xs) (count_by p xs) (count-filter p q xs) in
    omega (arith, count-cons p x xs)

-- ---- none passes

none_front : {X : Type 0} (b : Bool) (n : ℕ) (x : X) (rest : Option X) → one b + n ≡ 0 → (n ≡ 0 → rest ≡ None) → cond b (Some x) rest ≡ None
none_front true n x rest e f = absurd (omega arith)
none_front false n x rest e f = f (omega arith)

-- where none passes, none is found
pub none_counted : {X : Type 0} (p : X → Bool) (xs : List X) → count_by p xs ≡ 0 → find p xs ≡ None
none_counted p [] e = refl
none_counted p (x ∷ xs) e = none_front (p x) (count_by p xs) x (find p xs) (sym (count-cons p x xs) ∙ e) (none_counted p xs)

none_behind : {X : Type 0} (b : Bool) (n : ℕ) (x : X) (rest : Option X) → cond b (Some x) rest ≡ None → (rest ≡ None → n ≡ 0) → one b + n ≡ 0
none_behind true n x rest e f = absurd cc
none_behind false n x rest e f = let none = f e in omega arith

-- where none is found, none passes
pub count_none : {X : Type 0} (p : X → Bool) (xs : List X) → find p xs ≡ None → count_by p xs ≡ 0
count_none p [] e = refl
count_none p (x ∷ xs) e = count-cons p x xs ∙ none_behind (p x) (count_by p xs) x (find p xs) e (count_none p xs)

no_any : {X : Type 0} (b c : Bool) (n : ℕ) (x : X) (rest : Option X) → (b || c) ≡ false → (c ≡ false → (n ≡ 0) × (rest ≡ None)) → (one b + n ≡ 0) × (cond b (Some x) rest ≡ None)
no_any true c n x rest e f = absurd cc
no_any false c n x rest e f = let more = f e in (omega arith, more.1)

-- where no element passes, by `any`
pub none_any : {X : Type 0} (p : X → Bool) (xs : List X) → list_any p xs ≡ false → (count_by p xs ≡ 0) × (find p xs ≡ None)
none_any p [] e = (refl, refl)
none_any p (x ∷ xs) e =
    let more = no_any (p x) (list_any p xs) (count_by p xs) x (find p xs) e (none_any p xs) in
    (count-cons p x xs ∙ more.0, more.1)

any_front : {X : Type 0} (b c : Bool) (x : X) (rest : Option X) → (b || c) ≡ true → cond b (Some x) rest ≡ None → (c ≡ true → rest ≡ None → ⊥) → ⊥
any_front true c x rest e f more = absurd cc
any_front false c x rest e f more = more e f

-- where one passes, one is found
pub any_found : {X : Type 0} (p : X → Bool) (xs : List X) → list_any p xs ≡ true → find p xs ≡ None → ⊥
any_found p [] e f = absurd cc
any_found p (x ∷ xs) e f = any_front (p x) (list_any p xs) x (find p xs) e f (any_found p xs)

-- ---- at most one passes

fits : (b : Bool) (n : ℕ) → n ≤ 1 → (b ≡ true → n ≡ 0) → n + one b ≤ 1
fits true n le e = let none = e refl in omega arith
fits false n le e = omega arith

-- one more behind passes if none did
pub count_push : {X : Type 0} (p : X → Bool) (xs : List X) (x : X) → count_by p xs ≤ 1 → (p x ≡ true → find p xs ≡ None) → count_by p (xs ++ x ∷ []) ≤ 1
count_push p xs x le e =
    let small = fits (p x) (count_by p xs) le (λ here. count_none p xs (e here)) in
    omega (arith, sum_by_push (λ y. one (p y)) xs x)
