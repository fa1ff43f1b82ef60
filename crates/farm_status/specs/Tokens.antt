-- Tokens.
use Rattle.std.specs.Prelude.{◌≤◌, ◌-◌, ◌∷◌, [], ℕ, List, Bool, All, IsTrue, drop, length, nat_eq, nat_le, take, ◌&&◌, if◌then◌else◌}
use Rattle.std.specs.Cmp.Lexicographic.{pointwise}
use Rattle.farm_status.specs.declared.token.TokenFault.{TokenFault}
use Rattle.farm_status.specs.declared.token.TokenFault.TheVariants.{NoToken, OutOfMemory}

abbrev pub is_graphic : ℕ → Bool
is_graphic octet = nat_le 33 octet && nat_le octet 126

-- 16 to 256 octets that are seen
abbrev pub IsTokenText : List ℕ → Type 0
IsTokenText text = (16 ≤ length text) × (length text ≤ 256) × All (λ octet. IsTrue (is_graphic octet)) text

-- a text without the line feed at its end
abbrev pub unended : List ℕ → List ℕ
unended text = if pointwise nat_eq (drop (length text - 1) text) (10 ∷ []) then take (length text - 1) text else text

-- why octets are no token
abbrev pub IsWhyNone : List ℕ → TokenFault → Type 0
IsWhyNone octets NoToken = ¬ IsTokenText octets
IsWhyNone octets OutOfMemory = Unit {0}
