use Rattle.std.proofs.Common.{◌≡◌, length}
use Rattle.std.specs.Prelude.{All}
use Rattle.std.specs.Vec.Iter.{into_iter_items, into_iter_len}
use Rattle.front_pool.specs.Answering.{IsServedAt}
use Rattle.front_pool.specs.Counting.{takes_served}
use Rattle.front_pool.proofs.Serving.{HandsInSoFar}
use Rattle.front_pool.proofs.worker.Worker.finish_served.Given as goal

abbrev pub invariant-loop-one : goal.invariant-loop-one
invariant-loop-one g l = record {
  can : (goal.iterator-loop-one g).can_next l.one-iterator;
  finite : (goal.iterator-loop-one g).is_finite l.one-iterator;
  count : length (into_iter_items l.one-iterator) ≡ into_iter_len l.one-iterator;
  front : l.self.front ≡ l.fn.self.front;
  served_at : All (IsServedAt (g.L.Pooling.site l.fn.self.front) g.L.Sharing.shared) (into_iter_items l.one-iterator);
  so_far : HandsInSoFar g.L.Pooling.site g.L.Sharing.shared (λ one. one.job) takes_served l.fn.served.items (into_iter_items l.one-iterator) l.fn.self l.self;
}
