-- Counts of the last quarter of an hour.
use Rattle.std.specs.Prelude.{◌≡◌, ◌-◌, ◌++◌, ◌∷◌, ◌⊎◌, [], ℕ, List, Bool, true, Option, Some, None, length, nat_le, slice_get, if◌then◌else◌}
use Rattle.farm_metrics.specs.declared.trend.Sample.{Sample}

-- the last counts, if there are any, are ten seconds old
abbrev pub is_old : ℕ → Option Sample → Bool
is_old now None = true
is_old now (Some sample) = nat_le 10000000 (now - sample.at.0)

abbrev pub is_due : ℕ → List Sample → Bool
is_due now samples = is_old now (slice_get samples (length samples - 1))

-- without the first
abbrev pub without_first : List Sample → List Sample
without_first [] = []
without_first (first ∷ samples) = samples

-- those that stay where one more comes: 91 are kept at most
abbrev pub staying : List Sample → List Sample
staying samples = if nat_le 91 (length samples) then without_first samples else samples

-- one more stands behind those that stay, or, without memory, none does
abbrev pub IsAdded : Sample → List Sample → List Sample → Type 0
IsAdded sample old new = (new ≡ staying old ++ sample ∷ []) ⊎ (new ≡ staying old)
