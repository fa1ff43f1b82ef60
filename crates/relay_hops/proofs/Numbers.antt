-- Identifiers and their places.
use Rattle.std.proofs.Common.{◌≡◌, ℕ, zero, suc, ◌+◌, ◌-◌, ◌*◌, ◌/◌, ◌%◌, ◌^◌, ◌<◌, ◌≤◌, inl, inr, Bool, true, false, cond, List, [], ◌∷◌, length, get_or, Option, None, is_some, refl, ap, sym, subst, ◌∙◌, arith}
use Rattle.std.specs.Prelude.{nat_le}
use Rattle.std.specs.List.{count_by}
use Rattle.std.proofs.Math.Nat.{mul-add-mod_self_left, div-add-mod, add-mod_left, mod-eq_of_lt, mul-mod_right, pow-succ', mul_assoc}
use Rattle.std.proofs.lemmas.Nat.{mod_below, and_mask}
use Rattle.std.proofs.lemmas.Bool.{cases_lt, leb-true}
use Rattle.dia_base.proofs.Counting.{one, count-cons}
use Rattle.relay_hops.specs.Identifiers.{identifier_of, place_of, key_in, doubled, places_for, IsMasked}

-- ---- places of identifiers

-- what is left of a number behind a multiple of the places is what is left of the number
pub left_over : (size m number : ℕ) → size * m ≡ 2147483648 → (number % 2147483648) % size ≡ number % size
left_over size m number e =
    let parts = div-add-mod number 2147483648 in
    let whole : size * (m * (number / 2147483648)) + number % 2147483648 ≡ number =
    ap (λ n. n + number % 2147483648) (sym (mul_assoc size m (number / 2147483648)) ∙ ap (λ n. n * (number / 2147483648)) e) ∙ parts in
    sym (mul-add-mod_self_left size (m * (number / 2147483648)) (number % 2147483648)) ∙ ap (λ n. n % size) whole

pub place-identifier : (size m number : ℕ) → size * m ≡ 2147483648 → place_of size (identifier_of number) ≡ number % size
place-identifier size m number e =
    ap (λ n. (n + number % 2147483648) % size) (sym e) ∙ mul-add-mod_self_left size m (number % 2147483648) ∙ left_over size m number e

pub divisor : (size : ℕ) → 2147483648 % size ≡ 0 → size * (2147483648 / size) ≡ 2147483648
divisor size e = let parts = div-add-mod 2147483648 size in omega arith

-- each place is that of one of so many numbers in a row
pub covered : (size from at : ℕ) → at < size → (k : ℕ) × (k < size) × ((from + k) % size ≡ at)
covered size from at lt =
    let parts = div-add-mod from size in
    let below : from % size < size = mod_below from size (omega arith) in
    elim (cases_lt at (from % size)) [
      | inl before ↦
          let whole : from + (at + size - from % size) ≡ size * (from / size) + (size + at) = omega arith in (
            at + size - from % size,
            omega arith,
            ap (λ n. n % size) whole ∙ mul-add-mod_self_left size (from / size) (size + at) ∙ add-mod_left size at ∙ mod-eq_of_lt lt,
          )
      | inr behind ↦
          let whole : from + (at - from % size) ≡ size * (from / size) + at = omega arith in (
            at - from % size,
            omega arith,
            ap (λ n. n % size) whole ∙ mul-add-mod_self_left size (from / size) at ∙ mod-eq_of_lt lt,
          )
    ]

all_some : (keys : List (Option ℕ)) → ((at : ℕ) → at < length keys → is_some (get_or keys at None) ≡ true) → count_by is_some keys ≡ length keys
all_some [] all = refl
all_some (key ∷ keys) all =
    let here : one (is_some key) ≡ 1 = ap one (all 0 (omega arith)) in
    omega (arith, count-cons is_some key keys, all_some keys (λ at lt. all (suc at) (omega arith)))

-- where as many numbers in a row as there are places have none free, all are in use
pub none_free : (keys : List (Option ℕ)) (from : ℕ) → 2147483648 % length keys ≡ 0 → ((k : ℕ) → k < length keys → is_some (key_in keys (identifier_of (from + k))) ≡ true) → count_by is_some keys ≡ length keys
none_free keys from e all = all_some keys (λ at lt.
    let k = covered (length keys) from at lt in
    let place = place-identifier (length keys) (2147483648 / length keys) (from + k.0) (divisor (length keys) e) ∙ k.2 in
    ap (λ n. is_some (get_or keys n None)) (sym place) ∙ all k.0 k.1)

-- ---- how many places there are

pub doubled-le : (times wanted : ℕ) → doubled times wanted ≤ 2 ^ times
doubled-le zero wanted = omega arith
doubled-le (suc times) wanted = step (nat_le wanted (doubled times wanted)) (doubled times wanted) (doubled-le times wanted)
  where
    step : (b : Bool) (size : ℕ) → size ≤ 2 ^ times → cond b size (2 * size) ≤ 2 ^ suc times
    step true size le = let e = pow-succ' 2 times in omega arith
    step false size le = let e = pow-succ' 2 times in omega arith

pub doubled-some : (times wanted : ℕ) → 0 < doubled times wanted
doubled-some zero wanted = omega arith
doubled-some (suc times) wanted = step (nat_le wanted (doubled times wanted)) (doubled times wanted) (doubled-some times wanted)
  where
    step : (b : Bool) (size : ℕ) → 0 < size → 0 < cond b size (2 * size)
    step true size lt = lt
    step false size lt = omega arith

pub doubled-power : (times wanted : ℕ) → (m : ℕ) × (doubled times wanted * m ≡ 2 ^ times)
doubled-power zero wanted = (1, refl)
doubled-power (suc times) wanted = let power = doubled-power times wanted in step (nat_le wanted (doubled times wanted)) (doubled times wanted) power.0 power.1
  where
    step : (b : Bool) (size m : ℕ) → size * m ≡ 2 ^ times → (n : ℕ) × (cond b size (2 * size) * n ≡ 2 ^ suc times)
    step true size m e = (2 * m, let p = pow-succ' 2 times in let q = grind_two size m in omega arith)
      where
        grind_two : (size m : ℕ) → size * (2 * m) ≡ 2 * (size * m)
        grind_two size m = omega arith
    step false size m e = (m, let p = pow-succ' 2 times in let q = mul_assoc 2 size m in omega arith)

-- such a number of places is a power of two
doubled-is : (times wanted : ℕ) → (k : ℕ) × (doubled times wanted ≡ 2 ^ k)
doubled-is zero wanted = (0, refl)
doubled-is (suc times) wanted = step (nat_le wanted (doubled times wanted)) (doubled times wanted) (doubled-is times wanted)
  where
    step : (b : Bool) (size : ℕ) → (k : ℕ) × (size ≡ 2 ^ k) → (k : ℕ) × (cond b size (2 * size) ≡ 2 ^ k)
    step true size power = power
    step false size power = (suc power.0, let p = pow-succ' 2 power.0 in let q = power.1 in omega arith)

pub doubled-masked : (times wanted : ℕ) → IsMasked (doubled times wanted)
doubled-masked times wanted = let power = doubled-is times wanted in subst IsMasked (sym power.1) (λ hop. and_mask hop power.0)

not_yet : (times wanted : ℕ) → nat_le wanted (doubled times wanted) ≡ false → doubled times wanted ≡ 2 ^ times
not_yet zero wanted e = refl
not_yet (suc times) wanted e = step (nat_le wanted (doubled times wanted)) (doubled times wanted) refl (not_yet times wanted) e
  where
    step : (b : Bool) (size : ℕ) → nat_le wanted size ≡ b → (nat_le wanted size ≡ false → size ≡ 2 ^ times) → nat_le wanted (cond b size (2 * size)) ≡ false → cond b size (2 * size) ≡ 2 ^ suc times
    step true size is before e = absurd (let both = sym is ∙ e in cc)
    step false size is before e = let half = before is in let p = pow-succ' 2 times in omega arith

pub doubled-enough : (times wanted : ℕ) → wanted ≤ 2 ^ times → wanted ≤ doubled times wanted
doubled-enough times wanted le = by_test (nat_le wanted (doubled times wanted)) refl
  where
    by_test : (b : Bool) → nat_le wanted (doubled times wanted) ≡ b → wanted ≤ doubled times wanted
    by_test true e = leb-true wanted (doubled times wanted) e
    by_test false e = let all = not_yet times wanted e in omega arith

pub places-power : (limit : ℕ) → 2147483648 % places_for limit ≡ 0
unfolding places_for
places-power limit = let power = doubled-power 31 (2 * limit) in ap (λ n. n % doubled 31 (2 * limit)) (sym power.1) ∙ mul-mod_right (doubled 31 (2 * limit)) power.0

pub places-enough : (limit : ℕ) → limit ≤ 1073741824 → 2 * limit ≤ places_for limit
unfolding places_for
places-enough limit le = doubled-enough 31 (2 * limit) (omega arith)

pub places-some : (limit : ℕ) → 0 < places_for limit
unfolding places_for
places-some limit = doubled-some 31 (2 * limit)

-- there is a place more than there are rows
pub places-room : (limit : ℕ) → limit ≤ 1073741824 → limit < places_for limit
places-room limit le = omega (arith, places-enough limit le, places-some limit)
