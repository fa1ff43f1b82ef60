use Rattle.std.proofs.Common.{◌≡◌, ◌+◌}
use Rattle.front_pool.specs.Answering.{AreServed}
use Rattle.front_pool.specs.Counting.{takes_told}
use Rattle.front_pool.proofs.worker.Worker.work.Given as goal

abbrev pub invariant-loop : goal.invariant-loop
invariant-loop g l = record {
  next : (goal.iterator-loop g).can_next l.iterator';
  finite : (goal.iterator-loop g).is_finite l.iterator';
  served : AreServed g.L.Pooling.site g.L.Sharing.shared l.self.taken l.self.finished;
  count : l.self.counted ≡ l.fn.self.counted + takes_told l.self.finished;
}
