-- A text that is read up to one octet above a limit.
use Rattle.std.proofs.Common.{◌≡◌, ℕ, zero, suc, ◌≤◌, ◌<◌, List, [], ◌∷◌, length, take, Option, Some, None, refl, subst, ap, ◌∙◌, arith}
use Rattle.std.specs.Prelude.{IfSome}

-- what is shorter than the limit is all
short_is_all : (n : ℕ) (octets : List ℕ) → length (take n octets) < n → take n octets ≡ octets
short_is_all zero octets less = absurd (omega arith)
short_is_all (suc n) [] less = refl
short_is_all (suc n) (octet ∷ octets) less = ap (λ (xs : List ℕ). octet ∷ xs) (short_is_all n octets (omega arith))

pub all_is_read : (known : Option (List ℕ)) (text : List ℕ) → IfSome known (λ octets. text ≡ take 16777217 octets) → length text ≤ 16777216 → IfSome known (λ octets. text ≡ octets)
all_is_read None text read short = tt
all_is_read (Some octets) text read short = read ∙ short_is_all 16777217 octets (subst (λ (xs : List ℕ). length xs < 16777217) read (omega arith))
