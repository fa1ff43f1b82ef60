-- What is left of a record that is read in pieces.
use Rattle.std.specs.Prelude.{◌≡◌, ℕ, List, length, [], ◌∷◌, ◌++◌, ◌==◌, Bool, false, Option, Some, None, Result, Ok, Err}
use Rattle.std.specs.Global.{Vec}
use Rattle.std.specs.Io.KnownBytes.{Consumes, IsAtEnd, Keeps}
use Rattle.std.specs.List.{All}
use Rattle.record_reader.specs.Telling.{whole_lines}
use Rattle.record_reader.specs.declared.lines.LinesFault.{LinesFault}

-- no octet is a line feed
abbrev pub IsOneLine : List ℕ → Type 0
IsOneLine octets = All (λ octet. (octet == 10) ≡ false) octets

-- ---- what a call gives

-- the first line of octets, and what stands behind its line feed; or all, where none ends
abbrev pub TakesLine : List ℕ → List ℕ → Option (Vec ℕ) → Type 0
TakesLine octets behind (Some line) = (octets ≡ line.items ++ 10 ∷ behind) × IsOneLine line.items
TakesLine octets behind None = (behind ≡ octets) × IsOneLine octets

-- where it is known what is left: this line was the first of that, and the others are left
abbrev pub GivesFirst : Option (List ℕ) → Option (List ℕ) → List ℕ → Type 0
GivesFirst None new line = Unit {0}
GivesFirst (Some octets) None line = ⊥
GivesFirst (Some octets) (Some others) line = whole_lines octets ≡ line ∷ whole_lines others

abbrev pub HasNoLine : Option (List ℕ) → Type 0
HasNoLine None = Unit {0}
HasNoLine (Some octets) = whole_lines octets ≡ []

-- the next line, or none where none is left
abbrev pub GivesLine : Option (List ℕ) → Option (List ℕ) → Result (Option (Vec ℕ)) LinesFault → Type 0
GivesLine old new (Ok None) = HasNoLine old
GivesLine old new (Ok (Some line)) = GivesFirst old new line.items
GivesLine old new (Err fault) = Unit {0}

-- a read put octets behind others, which a reader had; where it put none, the reader is at its end
pub record Reads (old new : Option (List ℕ)) (before after : List ℕ) (more : Bool) : Type 0 where
  pub octets : List ℕ
  pub kept : after ≡ before ++ octets
  pub consumed : Consumes old new octets
  pub «end» : more ≡ false → IsAtEnd new × (octets ≡ [])

-- one call of a reader brought so many octets, which it had, and which were put behind others
pub record Brings (old new : Option (List ℕ)) (before after : List ℕ) (count : ℕ) : Type 0 where
  pub octets : List ℕ
  pub kept : after ≡ before ++ octets
  pub counted : count ≡ length octets
  pub consumed : Consumes old new octets
  pub «end» : count ≡ 0 → IsAtEnd new

-- the same, or the call was interrupted, and nothing was put
abbrev pub HasRead : Option (List ℕ) → Option (List ℕ) → List ℕ → List ℕ → Option ℕ → Type 0
HasRead old new before after (Some count) = Brings old new before after count
HasRead old new before after None = (after ≡ before) × Keeps old new
