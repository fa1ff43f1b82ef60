use Rattle.std.proofs.Common.{◌≡◌, ℕ, ◌+◌, ◌<◌, true, is_some}
use Rattle.relay_hops.specs.Identifiers.{identifier_of}
use Rattle.relay_hops.specs.PlaceTable.{key_at}
use Rattle.relay_hops.proofs.places.Places.first_free.Given as goal

-- none of the identifiers that were looked at is free
abbrev pub invariant-loop-passed : goal.invariant-loop-passed
invariant-loop-passed l = (k : ℕ) → k < l.passed → is_some (key_at l.self.index (identifier_of (l.from + k))) ≡ true
