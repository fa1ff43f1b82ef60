-- A reader that is read to its end, or up to a limit.
use Rattle.std.specs.Prelude.{ℕ, ◌+◌, List, take, IfSome, Option}
use Rattle.std.specs.Io.KnownBytes.{Consumes}

-- a text is read to its end, or up to one octet above a size limit, and nothing behind
abbrev pub ReadsUpTo : ℕ → Option (List ℕ) → Option (List ℕ) → Type 0
ReadsUpTo limit old new = IfSome old (λ octets. Consumes old new (take (limit + 1) octets))

-- the same of the size limit of site files and schedules
abbrev pub ReadsText : Option (List ℕ) → Option (List ℕ) → Type 0
ReadsText old new = ReadsUpTo 16777216 old new
