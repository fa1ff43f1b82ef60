-- How many numbers are passed over where a number is given only if no row has its place: in each lap of so many numbers as there are
-- places at most as many as there were rows when it began. This speaks of numbers that never begin again, and of no code.
use Rattle.std.proofs.Common.{◌≡◌, ℕ, zero, suc, ◌+◌, ◌-◌, ◌*◌, ◌/◌, ◌%◌, ◌<◌, ◌≤◌, ◌&&◌, ◌||◌, ◌==◌, inl, inr, Bool, true, false, List, [], ◌∷◌, length, refl, ap, sym, subst, ◌∙◌, arith}
use Rattle.std.specs.Prelude.{nat_le, nat_lt}
use Rattle.std.specs.List.{count_by, list_any, AllByRecursion}
use Rattle.std.proofs.Math.Nat.{div-add-mod, mul-le-mul_left, mul-suc}
use Rattle.std.proofs.lemmas.Bool.{cases_lt, cases_eq, eq-eqb, eqb-true, ne_eqb, or_cases, and_parts, leb-true, ltb-true, le-leb}
use Rattle.dia_base.proofs.Counting.{one, one-le, count-cons}

-- ---- counting numbers in a row

-- how many of the n numbers from w on pass
abbrev pub count_in : (ℕ → Bool) → ℕ → ℕ → ℕ
count_in p w zero = 0
count_in p w (suc n) = one (p w) + count_in p (suc w) n

one-or : (a b : Bool) → one (a || b) ≤ one a + one b
one-or true b = omega arith
one-or false b = omega arith

count_in-or : (p q : ℕ → Bool) (w n : ℕ) → count_in (λ x. p x || q x) w n ≤ count_in p w n + count_in q w n
count_in-or p q w zero = omega arith
count_in-or p q w (suc n) = omega (arith, one-or (p w) (q w), count_in-or p q (suc w) n)

pub count_in-le : (p q : ℕ → Bool) (w n : ℕ) → ((x : ℕ) → w ≤ x → x < w + n → p x ≡ true → q x ≡ true) → count_in p w n ≤ count_in q w n
count_in-le p q w zero f = omega arith
count_in-le p q w (suc n) f =
    let here = one-le (p w) (q w) (f w (omega arith) (omega arith)) in
    let rest = count_in-le p q (suc w) n (λ x low high. f x (omega arith) (omega arith)) in
    omega arith

not_true : (b : Bool) → (b ≡ true → ⊥) → b ≡ false
not_true true f = absurd (f refl)
not_true false f = refl

count_in-none : (p : ℕ → Bool) (w n : ℕ) → ((x : ℕ) → w ≤ x → x < w + n → p x ≡ true → ⊥) → count_in p w n ≡ 0
count_in-none p w zero f = refl
count_in-none p w (suc n) f =
    let here : one (p w) ≡ 0 = ap one (not_true (p w) (f w (omega arith) (omega arith))) in
    let rest = count_in-none p (suc w) n (λ x low high. f x (omega arith) (omega arith)) in
    omega arith

count_in-all : (p : ℕ → Bool) (w n : ℕ) → ((x : ℕ) → w ≤ x → x < w + n → p x ≡ true) → count_in p w n ≡ n
count_in-all p w zero f = refl
count_in-all p w (suc n) f =
    let here : one (p w) ≡ 1 = ap one (f w (omega arith) (omega arith)) in
    let rest = count_in-all p (suc w) n (λ x low high. f x (omega arith) (omega arith)) in
    omega arith

-- the number is one of the n from w on
abbrev pub is_within : ℕ → ℕ → ℕ → Bool
is_within w n x = nat_le w x && nat_lt x (w + n)

pub within-true : (w n x : ℕ) → w ≤ x → x < w + n → is_within w n x ≡ true
within-true w n x low high = ap (λ b. b && nat_lt x (w + n)) (le-leb w x low) ∙ le-leb (suc x) (w + n) (omega arith)

pub within-parts : (w n x : ℕ) → is_within w n x ≡ true → (w ≤ x) × (x < w + n)
within-parts w n x e = let parts = and_parts (nat_le w x) (nat_lt x (w + n)) e in (leb-true w x parts.0, ltb-true x (w + n) parts.1)

count_in-one : (k w n : ℕ) → count_in (λ x. x == k) w n ≤ one (is_within w n k)
count_in-one k w n = by_place (is_within w n k) refl
  where
    alone : (w n : ℕ) → count_in (λ x. x == k) w n ≤ 1
    alone w zero = omega arith
    alone w (suc n) = elim (cases_eq w k) [
      | inl is ↦
          let here : one (w == k) ≤ 1 = one-le (w == k) true (λ e. refl) in
          let rest = count_in-none (λ x. x == k) (suc w) n (λ x low high e. let same = eqb-true x k e in omega arith) in
          omega arith
      | inr ne ↦ let here : one (w == k) ≡ 0 = ap one (ne_eqb w k ne) in omega (arith, alone (suc w) n)
    ]

    by_place : (b : Bool) → is_within w n k ≡ b → count_in (λ x. x == k) w n ≤ one b
    by_place true e = alone w n
    by_place false e =
        let none = count_in-none (λ x. x == k) w n (λ x low high f.
        let same = eqb-true x k f in
        absurd (let yes = within-true w n k (omega arith) (omega arith) in let both : true ≡ false = sym yes ∙ e in cc)) in
        omega arith

-- ---- places

-- two numbers with the same place are a lap apart at least
pub lap_apart : (size a b : ℕ) → a % size ≡ b % size → a < b → a + size ≤ b
lap_apart size a b e lt =
    let first = div-add-mod a size in
    let second = div-add-mod b size in
    elim (cases_lt (a / size) (b / size)) [
      | inl less ↦
          let step = mul-le-mul_left size (let le : suc (a / size) ≤ b / size = omega arith in le) in
          let next = mul-suc size (a / size) in
          omega arith
      | inr more ↦ let step = mul-le-mul_left size more in omega arith
    ]

-- of the numbers of a lap one has the place at most
one_in_lap : (size place w n : ℕ) → n ≤ size → count_in (λ x. place == x % size) w n ≤ 1
one_in_lap size place w zero le = omega arith
one_in_lap size place w (suc n) le = elim (cases_eq place (w % size)) [
  | inl is ↦
      let here : one (place == w % size) ≤ 1 = one-le (place == w % size) true (λ e. refl) in
      let rest = count_in-none (λ x. place == x % size) (suc w) n (λ x low high e.
      let same : w % size ≡ x % size = sym is ∙ eqb-true place (x % size) e in
      let far = lap_apart size w x same (omega arith) in omega arith) in
      omega arith
  | inr ne ↦ let here : one (place == w % size) ≡ 0 = ap one (ne_eqb place (w % size) ne) in omega (arith, one_in_lap size place (suc w) n (omega arith))
]

-- a place that rows have, by the places of the rows
abbrev pub has_place : ℕ → List ℕ → ℕ → Bool
has_place size places x = list_any (λ place. place == x % size) places

-- in a lap no more numbers have a place of a row than there are rows
pub places_in_lap : (size : ℕ) (places : List ℕ) (w : ℕ) → count_in (has_place size places) w size ≤ length places
places_in_lap size [] w = let none = count_in-none (has_place size []) w size (λ x low high e. absurd cc) in omega arith
places_in_lap size (place ∷ places) w =
    let split = count_in-or (λ x. place == x % size) (has_place size places) w size in
    omega (arith, one_in_lap size place w size (omega arith), places_in_lap size places w)

-- ---- what is given

-- how many of the numbers that were given are among the n from w on
abbrev pub given_within : ℕ → ℕ → List ℕ → ℕ
given_within w n numbers = count_by (is_within w n) numbers

-- the number is passed, or will be passed over if nothing changes
abbrev pub is_lost : ℕ → ℕ → List ℕ → ℕ → Bool
is_lost size count places x = nat_lt x count || has_place size places x

-- In each lap that has begun since the first number no more is lost than was given, and as many as there may be rows besides.
pub record LosesFew (size most first count : ℕ) (places numbers : List ℕ) : Type 0 where
  pub laps : (w : ℕ) → first ≤ w → w < count → count_in (is_lost size count places) w size ≤ given_within w size numbers + most

or_map : (a b c : Bool) → (b ≡ true → c ≡ true) → (a || b) ≡ true → (a || c) ≡ true
or_map true b c f e = refl
or_map false b c f e = f e

-- rows less
pub loses-less : (size most first count : ℕ) (old new numbers : List ℕ) → ((x : ℕ) → has_place size new x ≡ true → has_place size old x ≡ true) → LosesFew size most first count old numbers → LosesFew size most first count new numbers
loses-less size most first count old new numbers fewer l = record {
  laps = λ w since lt.
      let le = count_in-le (is_lost size count new) (is_lost size count old) w size (λ x low high e. or_map (nat_lt x count) (has_place size new x) (has_place size old x) (fewer x) e) in
      omega (arith, l.laps w since lt);
}

above_none : (w n count : ℕ) (numbers : List ℕ) → count ≤ w → AllByRecursion (λ x. x < count) numbers → given_within w n numbers ≡ 0
above_none w n count [] le all = refl
above_none w n count (x ∷ numbers) le all =
    let below = all.0 in
    let here : one (is_within w n x) ≡ 0 = ap one (not_true (is_within w n x) (λ e. let parts = within-parts w n x e in absurd (omega arith))) in
    omega (arith, count-cons (is_within w n) x numbers, above_none w n count numbers le all.1)

or_right : (b c : Bool) → c ≡ true → (b || c) ≡ true
or_right true c e = refl
or_right false c e = e

or_left : (b c : Bool) → b ≡ true → (b || c) ≡ true
or_left true c e = refl
or_left false c e = absurd cc

-- the numbers that are passed over have the place of a row
abbrev pub AreTaken : ℕ → ℕ → ℕ → List ℕ → Type 0
AreTaken size count passed places = (k : ℕ) → k < passed → has_place size places (count + k) ≡ true

-- the places of the rows then are those before, and that of the number that is given
abbrev pub AddsPlace : ℕ → ℕ → List ℕ → List ℕ → Type 0
AddsPlace size given old new = (x : ℕ) → has_place size new x ≡ true → (has_place size old x || (given % size == x % size)) ≡ true

earlier : (size count passed : ℕ) (old : List ℕ) (x : ℕ) → AreTaken size count passed old → x < count + passed → is_lost size count old x ≡ true
earlier size count passed old x taken lt = elim (cases_lt x count) [
  | inl before ↦ or_left (nat_lt x count) (has_place size old x) (le-leb (suc x) count (omega arith))
  | inr behind ↦
      let same : count + (x - count) ≡ x = omega arith in
      or_right (nat_lt x count) (has_place size old x) (ap (has_place size old) (sym same) ∙ taken (x - count) (omega arith))
]

lost_other : (size count passed : ℕ) (old new : List ℕ) (w x : ℕ) → AreTaken size count passed old → AddsPlace size (count + passed) old new → w ≤ count + passed → x < w + size
    → (x ≡ count + passed → ⊥) → is_lost size (count + passed + 1) new x ≡ true → is_lost size count old x ≡ true
lost_other size count passed old new w x taken more le high ne e = elim (or_cases (nat_lt x (count + passed + 1)) (has_place size new x) e) [
  | inl before ↦ let less = ltb-true x (count + passed + 1) before in earlier size count passed old x taken (omega arith)
  | inr there ↦ elim (or_cases (has_place size old x) ((count + passed) % size == x % size) (more x there)) [
    | inl was ↦ or_right (nat_lt x count) (has_place size old x) was
    | inr own ↦ elim (cases_lt x (count + passed)) [
      | inl first ↦ earlier size count passed old x taken first
      | inr behind ↦ absurd (let far = lap_apart size (count + passed) x (eqb-true ((count + passed) % size) (x % size) own) (omega arith) in omega arith)
    ]
  ]
]

lost_before : (size count passed : ℕ) (old new : List ℕ) (w x : ℕ) → AreTaken size count passed old → AddsPlace size (count + passed) old new → w ≤ count + passed → x < w + size
    → is_lost size (count + passed + 1) new x ≡ true → (is_lost size count old x || (x == count + passed)) ≡ true
lost_before size count passed old new w x taken more le high e = elim (cases_eq x (count + passed)) [
  | inl is ↦ or_right (is_lost size count old x) (x == count + passed) (eq-eqb x (count + passed) is)
  | inr ne ↦ or_left (is_lost size count old x) (x == count + passed) (lost_other size count passed old new w x taken more le high ne e)
]

one_more : (size most count passed : ℕ) (old new numbers : List ℕ) (w : ℕ) → AreTaken size count passed old → AddsPlace size (count + passed) old new → w ≤ count + passed
    → count_in (is_lost size count old) w size ≤ given_within w size numbers + most
    → count_in (is_lost size (count + passed + 1) new) w size ≤ given_within w size ((count + passed) ∷ numbers) + most
one_more size most count passed old new numbers w taken more le before =
    let grown = count_in-le (is_lost size (count + passed + 1) new) (λ x. is_lost size count old x || (x == count + passed)) w size
    (λ x low high e. lost_before size count passed old new w x taken more le high e) in
    let split = count_in-or (is_lost size count old) (λ x. x == count + passed) w size in
    omega (arith, count_in-one (count + passed) w size, count-cons (is_within w size) (count + passed) numbers)

-- The next number whose place is free is given, and a row more has its place.
pub loses-more : (size most first count passed : ℕ) (old new numbers : List ℕ) → length old ≤ most → AllByRecursion (λ x. x < count) numbers
    → AreTaken size count passed old → AddsPlace size (count + passed) old new
    → LosesFew size most first count old numbers → LosesFew size most first (count + passed + 1) new ((count + passed) ∷ numbers)
loses-more size most first count passed old new numbers room below taken more l = record {
  laps = λ w since lt. elim (cases_lt w count) [
    | inl begun ↦ one_more size most count passed old new numbers w taken more (omega arith) (l.laps w since begun)
    | inr begins ↦
        let none = above_none w size count numbers begins below in
        let fresh = count_in-le (is_lost size count old) (has_place size old) w size (λ x low high e. elim (or_cases (nat_lt x count) (has_place size old x) e) [
          | inl before ↦ absurd (let less = ltb-true x count before in omega arith)
          | inr there ↦ there
        ]) in
        one_more size most count passed old new numbers w taken more (omega arith) (omega (arith, places_in_lap size old w))
  ];
}

-- ---- whole laps

one_lap : (size most first count w : ℕ) (places numbers : List ℕ) → LosesFew size most first count places numbers → 0 < size → first ≤ w → w + size ≤ count → size ≤ given_within w size numbers + most
one_lap size most first count w places numbers l some since le =
    let all = count_in-all (is_lost size count places) w size (λ x low high. or_left (nat_lt x count) (has_place size places x) (le-leb (suc x) count (omega arith))) in
    omega (arith, l.laps w since (omega arith))

within-split : (w m n x : ℕ) → one (is_within w (m + n) x) ≡ one (is_within w m x) + one (is_within (w + m) n x)
within-split w m n x = elim (cases_lt x w) [
  | inl before ↦
      let a : one (is_within w (m + n) x) ≡ 0 = ap one (not_true _ (λ e. let p = within-parts w (m + n) x e in absurd (omega arith))) in
      let b : one (is_within w m x) ≡ 0 = ap one (not_true _ (λ e. let p = within-parts w m x e in absurd (omega arith))) in
      let c : one (is_within (w + m) n x) ≡ 0 = ap one (not_true _ (λ e. let p = within-parts (w + m) n x e in absurd (omega arith))) in
      omega arith
  | inr low ↦ elim (cases_lt x (w + m)) [
    | inl first ↦
        let a : one (is_within w (m + n) x) ≡ 1 = ap one (within-true w (m + n) x low (omega arith)) in
        let b : one (is_within w m x) ≡ 1 = ap one (within-true w m x low first) in
        let c : one (is_within (w + m) n x) ≡ 0 = ap one (not_true _ (λ e. let p = within-parts (w + m) n x e in absurd (omega arith))) in
        omega arith
    | inr second ↦ elim (cases_lt x (w + (m + n))) [
      | inl inside ↦
          let a : one (is_within w (m + n) x) ≡ 1 = ap one (within-true w (m + n) x low inside) in
          let b : one (is_within w m x) ≡ 0 = ap one (not_true _ (λ e. let p = within-parts w m x e in absurd (omega arith))) in
          let c : one (is_within (w + m) n x) ≡ 1 = ap one (within-true (w + m) n x second (omega arith)) in
          omega arith
      | inr beyond ↦
          let a : one (is_within w (m + n) x) ≡ 0 = ap one (not_true _ (λ e. let p = within-parts w (m + n) x e in absurd (omega arith))) in
          let b : one (is_within w m x) ≡ 0 = ap one (not_true _ (λ e. let p = within-parts w m x e in absurd (omega arith))) in
          let c : one (is_within (w + m) n x) ≡ 0 = ap one (not_true _ (λ e. let p = within-parts (w + m) n x e in absurd (omega arith))) in
          omega arith
    ]
  ]
]

given-split : (w m n : ℕ) (numbers : List ℕ) → given_within w (m + n) numbers ≡ given_within w m numbers + given_within (w + m) n numbers
given-split w m n [] = refl
given-split w m n (x ∷ numbers) =
    omega (arith, within-split w m n x, given-split w m n numbers, count-cons (is_within w (m + n)) x numbers, count-cons (is_within w m) x numbers, count-cons (is_within (w + m) n) x numbers)

pub whole_laps : (size most first count : ℕ) (places numbers : List ℕ) → LosesFew size most first count places numbers → 0 < size → (times w : ℕ) → first ≤ w → w + size * times ≤ count
    → size * times ≤ given_within w (size * times) numbers + times * most
whole_laps size most first count places numbers l some zero w since le = let none : size * 0 ≡ 0 = omega arith in omega arith
whole_laps size most first count places numbers l some (suc times) w since le =
    let more = mul-suc size times in
    let same : size * suc times ≡ size * times + size = omega arith in
    let before = whole_laps size most first count places numbers l some times w since (omega arith) in
    let last = one_lap size most first count (w + size * times) places numbers l some (omega arith) (omega arith) in
    let sum = given-split w (size * times) size numbers in
    let product : suc times * most ≡ times * most + most = omega arith in
    subst (λ n. n ≤ given_within w n numbers + suc times * most) (sym same) (omega arith)
