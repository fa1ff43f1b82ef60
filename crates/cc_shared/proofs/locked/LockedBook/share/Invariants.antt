use Rattle.std.proofs.Common.{◌≡◌, ◌+◌, vec_len, vec_capacity}
use Rattle.std.specs.Prelude.{replicate}
use Rattle.cc_shared.proofs.locked.LockedBook.share.Given as goal

abbrev pub invariant-loop-made : goal.invariant-loop-made
invariant-loop-made g l =
    (l.rest.parts + l._made ≡ l.seats) × (l.rest.amount ≡ 0) × (l.places.items ≡ replicate l._made 0)
    × (vec_len l.places ≡ l._made) × (vec_capacity l.places ≡ l.seats)
