-- What units cost at most, and which tariffs are in their ranges.
use Rattle.std.proofs.Common.{◌≡◌, ℕ, ◌+◌, ◌*◌, ◌^◌, ◌<◌, ◌≤◌, Bool, true, false, cond, ◌&&◌, leb, List, [], ◌∷◌, Option, Some, None, refl, sym, subst, ap, ◌∙◌, arith, rules}
use Rattle.std.specs.Prelude.{IfSome}
use denote.Ref.{Bor}
use Rattle.std.specs.List.{find, list_all}
use Rattle.std.specs.Option.{option_copied}
use Rattle.std.proofs.Math.Nat.{mul-le-mul, mul-le-mul_left, mul-le-mul_right}
use Rattle.std.proofs.lemmas.Grind.{div_ceil_times}
use Rattle.cc_rating.specs.declared.tariff.Tariff.{Tariff}
use Rattle.cc_rating.specs.Rating.{blocks_of, cost_of}
use Rattle.cc_rating.specs.Tariffs.{in_range, has_key, from_one, units_limit}

pub and_parts : (a b : Bool) → (a && b) ≡ true → (a ≡ true) × (b ≡ true)
and_parts true b e = (refl, e)
and_parts false b e = absurd cc

pub le_true : (a b : ℕ) → leb a b ≡ true → a ≤ b
le_true a b e = search rules

units_fit : Tariff → Bool
units_fit t = from_one (units_limit t.kind) t.quantum && from_one (units_limit t.kind) t.greatest

-- the block and the price of a tariff in its ranges
pub in_range-parts : (t : Tariff) → in_range t ≡ true → (0 < t.block) × (t.price ≤ 2 ^ 20) × (t.block ≤ 2 ^ 32)
unfolding units_fit
in_range-parts t e =
    let priced : Bool = leb t.price (2 ^ 20) && units_fit t in
    let a = and_parts (has_key t) (from_one (2 ^ 32) t.block && priced) e in
    let c = and_parts (from_one (2 ^ 32) t.block) priced a.1 in
    let d = and_parts (leb 1 t.block) (leb t.block (2 ^ 32)) c.0 in
    let f = and_parts (leb t.price (2 ^ 20)) (units_fit t) c.1 in
    let one : 1 ≤ t.block = le_true 1 t.block d.0 in
    (omega arith, le_true t.price (2 ^ 20) f.0, le_true t.block (2 ^ 32) d.1)

-- no more blocks are begun than there are units
not_more : (blocks units block : ℕ) → 0 < block → blocks * block < units + block → units + 1 ≤ blocks → ⊥
not_more blocks units block some few more =
    let one : 1 ≤ block = omega arith in
    let a : (units + 1) * block ≤ blocks * block = mul-le-mul_right block more in
    let b : units * 1 ≤ units * block = mul-le-mul_left units one in
    omega arith

pub blocks_of-most : (units block : ℕ) → 0 < block → blocks_of units block ≤ units
blocks_of-most units block some =
    let few = div_ceil_times units block some in
    let never : units + 1 ≤ blocks_of units block → ⊥ = not_more (blocks_of units block) units block some few.1 in
    omega (arith, never)

pub cost_of-most : (t : Tariff) (units : ℕ) → in_range t ≡ true → cost_of t units ≤ units * 2 ^ 20
cost_of-most t units e = let parts = in_range-parts t e in mul-le-mul (blocks_of-most units t.block parts.0) parts.1

find-passes : (p q : Tariff → Bool) (b : Bool) (x y : Tariff) (xs : List Tariff) → p x ≡ b → q x ≡ true → (find p xs ≡ Some y → q y ≡ true) → find p (x ∷ xs) ≡ Some y → q y ≡ true
find-passes p q true x y xs is good more e =
    let found : Some x ≡ Some y = sym (ap (λ (b : Bool). cond b (Some x) (find p xs)) is) ∙ e in
    let same : x ≡ y = cc in subst (λ (t : Tariff). q t ≡ true) same good
find-passes p q false x y xs is good more e =
    more (sym (ap (λ (b : Bool). cond b (Some x) (find p xs)) is) ∙ e)

-- what is found passes each test that all pass
pub find-all : (p q : Tariff → Bool) (y : Tariff) (xs : List Tariff) → list_all q xs ≡ true → find p xs ≡ Some y → q y ≡ true
find-all p q y [] good e = absurd cc
find-all p q y (x ∷ xs) good e = let parts = and_parts _ _ good in find-passes p q (p x) x y xs refl parts.0 (find-all p q y xs parts.1) e

-- the found tariff is in its ranges
pub found_in_range : (p : Tariff → Bool) (xs : List Tariff) (r : Option (Bor Tariff)) → option_copied r ≡ find p xs → list_all in_range xs ≡ true → IfSome r (λ t. in_range t.now ≡ true)
found_in_range p xs None e good = tt
found_in_range p xs (Some t) e good = find-all p in_range t.now xs good (sym e)
