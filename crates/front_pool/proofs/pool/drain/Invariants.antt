use Rattle.std.proofs.Common.{◌≡◌, true, ◌+◌, ◌≤◌, ◌++◌, vec_len, vec_capacity}
use Rattle.std.specs.Prelude.{All}
use Rattle.std.specs.List.Sorted.{IsPermutation}
use Rattle.crossbeam_queue.specs.Passes.{IsPassOf, view}
use Rattle.front_pool.specs.Answering.{IsAnsweredBy}
use Rattle.front_pool.specs.Jobs.{jobs_of}
use Rattle.front_pool.proofs.pool.drain.Given as goal

abbrev pub invariant-loop : goal.invariant-loop
invariant-loop g l = record {
  next : (goal.iterator-loop g).can_next l.iterator';
  finite : (goal.iterator-loop g).is_finite l.iterator';
  pass : IsPassOf l.queue l.pass;
  by_pool : (view l.pass).by_pool ≡ true;
  jobs : IsPermutation l.fn.unanswered.items (jobs_of l.finished.items ++ l.left.items);
  answered : All (IsAnsweredBy l.fn.front g.L.Pooling.site g.L.Sharing.shared) l.finished.items;
  room : vec_len l.left + vec_len l.finished ≤ vec_capacity l.finished;
}
