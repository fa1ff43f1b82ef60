use Rattle.std.proofs.Common.{◌≡◌, ◌≤◌, ◌+◌, length, vec_len, vec_capacity}
use Rattle.std.specs.Vec.Iter.{into_iter_items, into_iter_len}
use Rattle.front_pool.proofs.Serving.{ReadsSoFar}
use Rattle.front_pool.proofs.worker.Worker.read_all.Given as goal

abbrev pub invariant-loop-job : goal.invariant-loop-job
invariant-loop-job g l = record {
  can : (goal.iterator-loop-job g).can_next l.job-iterator;
  finite : (goal.iterator-loop-job g).is_finite l.job-iterator;
  count : length (into_iter_items l.job-iterator) ≡ into_iter_len l.job-iterator;
  front : l.self.front ≡ l.fn.self.front;
  so_far : ReadsSoFar g.L.Pooling.site g.L.Sharing.shared l.fn.self.front l.fn.jobs.items (into_iter_items l.job-iterator) l.asked.items l.fn.self l.self;
  room : vec_len l.asked + length (into_iter_items l.job-iterator) ≤ vec_capacity l.asked;
}
