-- Numbers that decimal digits write, read from the front.
use Rattle.std.proofs.Common.{◌≡◌, ℕ, zero, suc, drop-cons, add-one, ◌+◌, ◌-◌, ◌*◌, ◌^◌, ◌<◌, ◌≤◌, true, false, ◌&&◌, cond, nat_lt, List, [], ◌∷◌, length, Option, Some, None, MatchOption, get_or, drop, refl, ◌∙◌, inl, inr, arith}
use Rattle.std.proofs.Math.Bool.{and-false}
use Rattle.std.proofs.Math.Nat.{pow-suc, mul-le-mul_left}
use Rattle.std.proofs.lemmas.Bool.{cases_Bool, ltb-true, ltb-false, lt-ltb, le-ltb}
use Rattle.std.specs.List.{list_all}
use Rattle.std.specs.Option.{SomeIff}
use Rattle.farm_script.specs.Words.{is_digit, worth_of, value_of}

-- what is read where digits follow a number
unfoldable pub read_on : ℕ → List ℕ → Option ℕ
read_on n digits = cond (list_all is_digit digits && nat_lt (n * 10 ^ length digits + worth_of digits) (2 ^ 64)) (Some (n * 10 ^ length digits + worth_of digits)) (None)

same_worth : (n digit k worth : ℕ) → n * 10 ^ suc k + (digit * 10 ^ k + worth) ≡ (10 * n + digit) * 10 ^ k + worth
same_worth n digit k worth = rw (pow-suc 10 k) (omega arith)

least_power : (k : ℕ) → 1 ≤ 10 ^ k
least_power zero = omega arith
least_power (suc k) = let below = least_power k in rw (pow-suc 10 k) (omega arith)

least_worth : (n k worth : ℕ) → n ≤ n * 10 ^ k + worth
least_worth n k worth = omega (arith, mul-le-mul_left n (least_power k))

pub read_on-start : (word : List ℕ) → value_of word ≡ read_on 0 word
unfolding read_on
read_on-start word =
    let same : 0 * 10 ^ length word + worth_of word ≡ worth_of word = omega arith in
    rw same refl

pub read_on-end : (n : ℕ) → n < 2 ^ 64 → read_on n [] ≡ Some n
unfolding read_on
read_on-end n h =
    let same : n * 10 ^ 0 + 0 ≡ n = omega arith in
    let less : nat_lt n (2 ^ 64) ≡ true = lt-ltb _ _ h in
    rw (same, less) refl

pub read_on-digit : (n digit : ℕ) (word : List ℕ) → is_digit digit ≡ true → read_on n (digit ∷ word) ≡ read_on (10 * n + (digit - 48)) word
unfolding read_on
read_on-digit n digit word h = rw (h, same_worth n (digit - 48) (length word) (worth_of word)) refl

pub read_on-other : (n octet : ℕ) (word : List ℕ) → is_digit octet ≡ false → read_on n (octet ∷ word) ≡ None
unfolding read_on
read_on-other n octet word h = rw h refl

pub read_on-large : (n : ℕ) (word : List ℕ) → 2 ^ 64 ≤ n → read_on n word ≡ None
unfolding read_on
read_on-large n word h =
    let large : 2 ^ 64 ≤ n * 10 ^ length word + worth_of word = omega (arith, least_worth n (length word) (worth_of word)) in
    let not_less : nat_lt (n * 10 ^ length word + worth_of word) (2 ^ 64) ≡ false = le-ltb _ _ large in
    rw (not_less, and-false (list_all is_digit word)) refl

front_digit : (octet n : ℕ) (word : List ℕ) (r : Option ℕ)
    → SomeIff r ((is_digit octet ≡ true) × (10 * n + (octet - 48) < 2 ^ 64)) (10 * n + (octet - 48))
    → MatchOption r (read_on n (octet ∷ word) ≡ None) (λ m. read_on n (octet ∷ word) ≡ read_on m word)
front_digit octet n word (Some m) h = rw h.1 (read_on-digit n octet word h.0.0)
front_digit octet n word None h = elim (cases_Bool (is_digit octet)) [
  | inl digit ↦ elim (cases_Bool (nat_lt (10 * n + (octet - 48)) (2 ^ 64))) [
    | inl less ↦ absurd (h (digit, ltb-true _ _ less))
    | inr more ↦ read_on-digit n octet word digit ∙ read_on-large (10 * n + (octet - 48)) word (ltb-false _ _ more)
  ]
  | inr other ↦ read_on-other n octet word other
]

-- one digit more, or none where it is none or the number grows too large
pub next_digit : (word : List ℕ) (i n : ℕ) (r : Option ℕ) → i < length word
    → SomeIff r ((is_digit (get_or word i 0) ≡ true) × (10 * n + (get_or word i 0 - 48) < 2 ^ 64)) (10 * n + (get_or word i 0 - 48))
    → MatchOption r (read_on n (drop i word) ≡ None) (λ m. read_on n (drop i word) ≡ read_on m (drop (i + 1) word))
next_digit word i n r within h = rw (add-one, drop-cons word i 0 within) (front_digit (get_or word i 0) n (drop (suc i) word) r h)
