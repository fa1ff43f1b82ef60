-- Octets as text of an SVG.
use Rattle.std.specs.Prelude.{ℕ, List, ◌≢◌, ◌≤◌, ◌∷◌, [], ◌==◌, ◌&&◌, nat_le, if◌then◌else◌, codes}
use Rattle.std.specs.List.{flat_map}

-- what stands for an octet: a reference where the character is markup (XML 1.0, section 2.4), and a question mark where
-- it is not visible ASCII, nor a space
abbrev pub escape_of : ℕ → List ℕ
escape_of octet =
    if octet == 38 then codes "&amp;"
    else if octet == 60 then codes "&lt;"
    else if octet == 62 then codes "&gt;"
    else if octet == 34 then codes "&quot;"
    else if octet == 39 then codes "&#39;"
    else if nat_le 32 octet && nat_le octet 126 then octet ∷ []
    else codes "?"

abbrev pub escaped : List ℕ → List ℕ
escaped octets = flat_map escape_of octets

-- visible ASCII or a space, and neither <, >, " nor '
abbrev pub IsNoMarkup : ℕ → Type 0
IsNoMarkup octet = (32 ≤ octet) × (octet ≤ 126) × (octet ≢ 60) × (octet ≢ 62) × (octet ≢ 34) × (octet ≢ 39)
