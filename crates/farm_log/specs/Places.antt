-- Where the count of a kind and a peer stands.
use Rattle.std.specs.Prelude.{◌≡◌, ◌<◌, ◌+◌, ◌*◌, ℕ, length, slice_index_or}
use Rattle.farm_log.specs.declared.count.Count.{Count}
use Rattle.farm_log.specs.declared.limiter.Limiter.{Limiter}
use Rattle.farm_log.specs.Limits.{no_lines}

-- by peer, and then by kind
abbrev pub IsPlaceOf : Limiter → ℕ → ℕ → ℕ → Type 0
IsPlaceOf limiter kind peer place =
    (kind < limiter.kinds) × (place ≡ peer * limiter.kinds + kind) × (place < length limiter.counts.items)

abbrev pub count_at : Limiter → ℕ → Count
count_at limiter place = slice_index_or limiter.counts.items place no_lines
