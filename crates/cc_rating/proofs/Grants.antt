-- What is granted.
use Rattle.std.proofs.Common.{◌≡◌, ℕ, ◌+◌, ◌*◌, ◌/◌, ◌<◌, ◌≤◌, Bool, true, false, cond, ◌||◌, eqb, min, refl, sym, subst, ap, ◌∙◌, arith}
use Rattle.std.specs.Prelude.{ℤ, pos, negsuc, ◌≤ℤ◌, ◌<ℤ◌, int_le, ◌↔◌}
use Rattle.std.specs.Int.{int_max}
use Rattle.std.proofs.Math.Nat.{div-mul-le_self, mul-le-mul_right}
use Rattle.std.proofs.lemmas.Bool.{eqb-true}
use Rattle.std.proofs.lemmas.Grind.{div_ceil_times}
use Rattle.std.proofs.lemmas.Int.{ints, int_max_is}
use Rattle.std.proofs.lemmas.Nat.{le-div}
use Rattle.cc_rating.specs.declared.tariff.Tariff.{Tariff}
use Rattle.cc_rating.specs.Rating.{available, blocks_of, cost_of, grant_of, grant_with, units_free, wanted_units}

-- ---- whole blocks

-- units of so many blocks begin no more
blocks_within : (units block k : ℕ) → 0 < block → units ≤ k * block → blocks_of units block ≤ k
blocks_within units block k some le =
    let few = (div_ceil_times units block some).1 in
    let never : k + 1 ≤ blocks_of units block → ⊥ = λ more. let a : (k + 1) * block ≤ blocks_of units block * block = mul-le-mul_right block more in omega arith in
    omega (arith, never)

-- the units of the blocks that an amount pays for cost no more than it
cost_within : (tariff : Tariff) (units amount : ℕ) → 0 < tariff.block → units ≤ amount / tariff.price * tariff.block → cost_of tariff units ≤ amount
cost_within tariff units amount some le =
    let few = mul-le-mul_right tariff.price (blocks_within units tariff.block (amount / tariff.price) some le) in
    let paid = div-mul-le_self amount tariff.price in
    omega arith

-- units that cost no more than an amount are within the blocks that it pays for
units_within : (tariff : Tariff) (units amount : ℕ) → 0 < tariff.block → 0 < tariff.price → cost_of tariff units ≤ amount → units ≤ amount / tariff.price * tariff.block
units_within tariff units amount some priced le =
    let blocks = le-div (blocks_of units tariff.block) amount tariff.price priced le in
    let more = mul-le-mul_right tariff.block blocks in
    let enough = (div_ceil_times units tariff.block some).0 in
    omega arith

-- ---- amounts

available-most : (free : ℤ) → pos (available free) ≤ℤ int_max free (pos 0)
available-most (pos n) = omega (arith, ints, int_max_is (pos n) (pos 0))
available-most (negsuc n) = omega (arith, ints, int_max_is (negsuc n) (pos 0))

within_available : (free : ℤ) (cost : ℕ) → pos cost ≤ℤ free → cost ≤ available free
within_available (pos n) cost le = omega (arith, ints)
within_available (negsuc n) cost le = absurd (omega (arith, ints))

above-available : (free : ℤ) (cost : ℕ) → pos 0 ≤ℤ free → free <ℤ pos cost → available free < cost
above-available (pos n) cost some above = omega (arith, ints)
above-available (negsuc n) cost some above = absurd (omega (arith, ints))

pub available-below : (free : ℤ) (cost : ℕ) → free <ℤ pos cost → available free ≤ cost
available-below (pos n) cost above = omega (arith, ints)
available-below (negsuc n) cost above = omega arith

max-above : (free : ℤ) (cost : ℕ) → pos cost ≤ℤ free → pos cost ≤ℤ int_max free (pos 0)
max-above free cost le = omega (arith, ints, int_max_is free (pos 0))

max-zero : (free : ℤ) → pos 0 ≤ℤ int_max free (pos 0)
max-zero free = omega (arith, ints, int_max_is free (pos 0))

le_test : (a b : ℤ) → int_le a b ≡ true → a ≤ℤ b
le_test a b h = grind (arith, ints)

above_test : (a b : ℤ) → int_le a b ≡ false → b <ℤ a
above_test a b h = grind (arith, ints)

-- ---- all that is wanted, or what is free

abbrev is_covered : Tariff → ℤ → ℕ → Bool
is_covered tariff free asked = eqb tariff.price 0 || int_le (pos (cost_of tariff (wanted_units tariff asked))) free

neither : (a b : Bool) → (a || b) ≡ false → (a ≡ false) × (b ≡ false)
neither true b e = absurd cc
neither false b e = (refl, e)

costs_nothing : (tariff : Tariff) (units : ℕ) → tariff.price ≡ 0 → cost_of tariff units ≡ 0
costs_nothing tariff units e = ap (λ (price : ℕ). blocks_of units tariff.block * price) e ∙ omega arith

is_priced : (price : ℕ) → eqb price 0 ≡ false → 0 < price
is_priced price e = grind arith

pub held-is : (tariff : Tariff) (free : ℤ) (asked : ℕ) → (grant_of tariff free asked).held ≡ cost_of tariff (grant_of tariff free asked).units
held-is tariff free asked = by (is_covered tariff free asked) where
  by : (b : Bool)
      → (cond b (grant_with tariff (wanted_units tariff asked) false) (grant_with tariff (min (wanted_units tariff asked) (units_free tariff free)) true)).held
      ≡ cost_of tariff (cond b (grant_with tariff (wanted_units tariff asked) false) (grant_with tariff (min (wanted_units tariff asked) (units_free tariff free)) true)).units
  by true = refl
  by false = refl

covered-free : (tariff : Tariff) (free : ℤ) (asked : ℕ) (cheap : Bool) → eqb tariff.price 0 ≡ cheap → (cheap || int_le (pos (cost_of tariff (wanted_units tariff asked))) free) ≡ true
    → pos (cost_of tariff (wanted_units tariff asked)) ≤ℤ int_max free (pos 0)
covered-free tariff free asked true cheap e =
    subst (λ (cost : ℕ). pos cost ≤ℤ int_max free (pos 0)) (sym (costs_nothing tariff (wanted_units tariff asked) (eqb-true tariff.price 0 cheap))) (max-zero free)
covered-free tariff free asked false cheap e = max-above free (cost_of tariff (wanted_units tariff asked)) (le_test _ _ e)

min-right : (a b : ℕ) → min a b ≤ b
min-right a b = omega arith

le_trans_ℤ : (a b c : ℤ) → a ≤ℤ b → b ≤ℤ c → a ≤ℤ c
le_trans_ℤ a b c p q = omega (arith, ints)

pos-le : (a b : ℕ) → a ≤ b → pos a ≤ℤ pos b
pos-le a b le = omega (arith, ints)

pub held-free : (tariff : Tariff) (free : ℤ) (asked : ℕ) → 0 < tariff.block → pos (grant_of tariff free asked).held ≤ℤ int_max free (pos 0)
held-free tariff free asked some = by (is_covered tariff free asked) refl where
  by : (b : Bool) → is_covered tariff free asked ≡ b
      → pos (cond b (grant_with tariff (wanted_units tariff asked) false) (grant_with tariff (min (wanted_units tariff asked) (units_free tariff free)) true)).held ≤ℤ int_max free (pos 0)
  by true e = covered-free tariff free asked (eqb tariff.price 0) refl e
  by false e =
      le_trans_ℤ _ _ _
      (pos-le _ _ (cost_within tariff (min (wanted_units tariff asked) (units_free tariff free)) (available free) some (min-right (wanted_units tariff asked) (units_free tariff free))))
      (available-most free)

pub units-wanted : (tariff : Tariff) (free : ℤ) (asked : ℕ) → (grant_of tariff free asked).units ≤ min asked tariff.greatest
units-wanted tariff free asked = by (is_covered tariff free asked) where
  by : (b : Bool) → (cond b (grant_with tariff (wanted_units tariff asked) false) (grant_with tariff (min (wanted_units tariff asked) (units_free tariff free)) true)).units ≤ min asked tariff.greatest
  by true = omega arith
  by false = let n = wanted_units tariff asked in omega arith

within_both : (units a b : ℕ) → units ≤ a → units ≤ b → units ≤ min a b
within_both units a b p q = omega arith

pub units-most : (tariff : Tariff) (free : ℤ) (asked units : ℕ) → 0 < tariff.block → units ≤ min asked tariff.greatest → pos (cost_of tariff units) ≤ℤ free → units ≤ (grant_of tariff free asked).units
units-most tariff free asked units some wanted le = by (is_covered tariff free asked) refl where
  by : (b : Bool) → is_covered tariff free asked ≡ b → units ≤ (cond b (grant_with tariff (wanted_units tariff asked) false) (grant_with tariff (min (wanted_units tariff asked) (units_free tariff free)) true)).units
  by true e = wanted
  by false e =
      let parts = neither (eqb tariff.price 0) (int_le (pos (cost_of tariff (wanted_units tariff asked))) free) e in
      within_both units (wanted_units tariff asked) (units_free tariff free) wanted
      (units_within tariff units (available free) some (is_priced tariff.price parts.0) (within_available free (cost_of tariff units) le))

below_min : (a b : ℕ) → b < a → min a b < a
below_min a b lt = omega arith

not_itself : (n : ℕ) → n < n → ⊥
not_itself n lt = omega arith

-- what is not free is more than the blocks that are
cut-below : (tariff : Tariff) (free : ℤ) (wanted : ℕ) → 0 < tariff.block → pos 0 ≤ℤ free → free <ℤ pos (cost_of tariff wanted) → units_free tariff free < wanted
cut-below tariff free wanted some no_debt above =
    let over = above-available free (cost_of tariff wanted) no_debt above in
    let never : wanted ≤ units_free tariff free → ⊥ = λ le. let within = cost_within tariff wanted (available free) some le in omega arith in
    omega (arith, never)

pub last-cut : (tariff : Tariff) (free : ℤ) (asked : ℕ) → 0 < tariff.block → pos 0 ≤ℤ free → ((grant_of tariff free asked).last ≡ true) ↔ ((grant_of tariff free asked).units < min asked tariff.greatest)
last-cut tariff free asked some no_debt = by (is_covered tariff free asked) refl where
  by : (b : Bool) → is_covered tariff free asked ≡ b
      → ((cond b (grant_with tariff (wanted_units tariff asked) false) (grant_with tariff (min (wanted_units tariff asked) (units_free tariff free)) true)).last ≡ true)
      ↔ ((cond b (grant_with tariff (wanted_units tariff asked) false) (grant_with tariff (min (wanted_units tariff asked) (units_free tariff free)) true)).units < min asked tariff.greatest)
  by true e = (λ last. absurd cc, λ less. absurd (not_itself _ less))
  by false e =
      let parts = neither (eqb tariff.price 0) (int_le (pos (cost_of tariff (wanted_units tariff asked))) free) e in
      (λ last. below_min (wanted_units tariff asked) (units_free tariff free) (cut-below tariff free (wanted_units tariff asked) some no_debt (above_test _ _ parts.1)), λ less. refl)
