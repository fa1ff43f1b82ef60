use Rattle.std.proofs.Common.{◌≡◌, ◌+◌, length, vec_len, vec_capacity}
use Rattle.std.specs.Arc.{arc_value}
use Rattle.crossbeam_queue.specs.Passes.{IsPassOf, view}
use Rattle.front_pool.specs.Moving.{of_pool}
use Rattle.front_pool.proofs.pool.Pool.start.Given as goal

abbrev pub invariant-loop-seat : goal.invariant-loop-seat
invariant-loop-seat g l =
    (goal.iterator-loop-seat g).can_next l.seat-iterator × (goal.iterator-loop-seat g).is_finite l.seat-iterator
    × (vec_len l.workers + vec_len l.back ≡ length l.yielded) × (vec_capacity l.workers ≡ vec_capacity l.initial.workers)
    × (vec_capacity l.back ≡ vec_capacity l.initial.back)
    × IsPassOf (arc_value l.desk.jobs) l.job_pass × (view l.job_pass ≡ of_pool)
    × IsPassOf (arc_value l.desk.finished) l.finished_pass × (view l.finished_pass ≡ of_pool)
