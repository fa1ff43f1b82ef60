use Rattle.std.proofs.Common.{◌≡◌, ◌+◌, length, vec_len, vec_capacity}
use Rattle.front_pool.proofs.pool.joined.Given as goal

abbrev pub invariant-loop-worker : goal.invariant-loop-worker
invariant-loop-worker g l =
    (goal.iterator-loop-worker g).can_next l.worker-iterator × (goal.iterator-loop-worker g).is_finite l.worker-iterator
    × (vec_len l.seats ≡ vec_len l.initial.seats + length l.yielded) × (vec_capacity l.seats ≡ vec_capacity l.initial.seats)
