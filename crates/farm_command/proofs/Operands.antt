-- The operands that were found for a subcommand.
use Rattle.std.proofs.Common.{◌≡◌, ◌<◌, ◌≤◌, Bor, List, [], ◌∷◌, Option, Some, None, refl, ap, arith, find, get_or, length, map, option_map, option_and_then, slice_get}
use Rattle.std.specs.Str.{bytes_eq}
use Rattle.clap.specs.Walk.{Row, Text, all_of, first_of}

-- no values, no first one
pub none_first : (id : Text) (rows : List Row) → all_of id rows ≡ None → first_of id rows ≡ None
none_first id rows none = go (find (λ r. bytes_eq r.id id) rows) none
  where
    go : (o : Option Row) → option_map (λ r. r.values) o ≡ None → option_and_then (λ r. slice_get r.values 0) o ≡ None
    go None e = refl
    go (Some row) e = cc

-- three operands, of which the first is this word
pub three_operands : (operands : List (Bor Text)) (d : Bor Text) (word : Text) → 3 ≤ length operands → length operands < 4 → (get_or operands 0 d).now ≡ word
    → map (λ s. s.now) operands ≡ word ∷ (get_or operands 1 d).now ∷ (get_or operands 2 d).now ∷ []
three_operands [] d word least below e = absurd (omega arith)
three_operands (a ∷ []) d word least below e = absurd (omega arith)
three_operands (a ∷ b ∷ []) d word least below e = absurd (omega arith)
three_operands (a ∷ b ∷ c ∷ []) d word least below e = ap (λ (w : Text). w ∷ b.now ∷ c.now ∷ []) e
three_operands (a ∷ b ∷ c ∷ x ∷ more) d word least below e = absurd (omega arith)
