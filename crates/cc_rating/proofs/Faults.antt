-- The first fault of tariffs, tariff by tariff.
use Rattle.std.proofs.Common.{◌≡◌, ℕ, suc, ◌+◌, ◌<◌, Bool, true, false, cond, not, ◌&&◌, List, [], ◌∷◌, ◌++◌, length, take, drop, get_or, Option, Some, None, refl, sym, ap, ◌∙◌, add-one}
use Rattle.std.specs.List.{list_all}
use Rattle.std.specs.Option.{option_or}
use Rattle.std.proofs.Math.Seq.{drop-cons}
use Rattle.std.proofs.lemmas.List.{take_more}
use Rattle.cc_rating.specs.declared.tariff.Tariff.{Tariff}
use Rattle.cc_rating.specs.declared.tariffs.TariffFault.{TariffFault}
use Rattle.cc_rating.specs.declared.tariffs.TariffFault.TheVariants.{Twice, OutOfRange}
use Rattle.cc_rating.specs.Tariffs.{in_range, is_twice, fault_after, fault_from, fault_of, AreInRange}

-- the tariff at a place, after those before it
pub fault_from-at : (xs : List Tariff) (i : ℕ) (d : Tariff) → i < length xs → fault_from (take i xs) (drop i xs) ≡ option_or (fault_after (take i xs) (get_or xs i d)) (fault_from (take (i + 1) xs) (drop (i + 1) xs))
fault_from-at xs i d lt =
    ap (fault_from (take i xs)) (drop-cons xs i d lt)
    ∙ ap (λ (front : List Tariff). option_or (fault_after (take i xs) (get_or xs i d)) (fault_from front (drop (suc i) xs))) (sym (take_more xs i d lt))
    ∙ ap (λ (j : ℕ). option_or (fault_after (take i xs) (get_or xs i d)) (fault_from (take (i + 1) xs) (drop j xs))) (sym (add-one i))

none_ranges : (range twice : Bool) (more : Option TariffFault) → option_or (cond (not range) (Some OutOfRange) (cond twice (Some Twice) None)) more ≡ None → (range ≡ true) × (more ≡ None)
none_ranges true true more e = absurd cc
none_ranges true false more e = (refl, e)
none_ranges false twice more e = absurd cc

and_both : (a b : Bool) → a ≡ true → b ≡ true → (a && b) ≡ true
and_both true b p q = q
and_both false b p q = absurd cc

from_ranges : (before after : List Tariff) → fault_from before after ≡ None → AreInRange after
from_ranges before [] e = refl
from_ranges before (t ∷ after) e =
    let parts = none_ranges (in_range t) (is_twice before t) (fault_from (before ++ t ∷ []) after) e in
    and_both (in_range t) (list_all in_range after) parts.0 (from_ranges (before ++ t ∷ []) after parts.1)

-- tariffs without fault are in their ranges
pub fault_of-none : (tariffs : List Tariff) → fault_of tariffs ≡ None → AreInRange tariffs
fault_of-none tariffs e = from_ranges [] tariffs e
