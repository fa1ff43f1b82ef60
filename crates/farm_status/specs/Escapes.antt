-- Names in texts: what stands for an octet of one.
use Rattle.std.specs.Prelude.{◌==◌, ◌∷◌, [], ℕ, List, codes, nat_lt, if◌then◌else◌}

-- an octet that is printed stands for itself; else a question mark does
abbrev pub plain_of : ℕ → List ℕ
plain_of octet = if nat_lt octet 32 then codes "?" else if nat_lt octet 127 then octet ∷ [] else codes "?"

-- in HTML: `<`, `>`, `&`, `"` and `'` have names
abbrev pub html_of : ℕ → List ℕ
html_of octet =
    if octet == 60 then codes "&lt;"
    else if octet == 62 then codes "&gt;"
    else if octet == 38 then codes "&amp;"
    else if octet == 34 then codes "&quot;"
    else if octet == 39 then codes "&#39;"
    else plain_of octet

-- in the value of a label: a backslash stands before `\` and `"`
abbrev pub label_of : ℕ → List ℕ
label_of octet =
    if octet == 92 then 92 ∷ 92 ∷ []
    else if octet == 34 then 92 ∷ 34 ∷ []
    else plain_of octet
