use Rattle.front_pool.specs.Answering.{IsAnsweredByOne}
use Rattle.front_pool.specs.Moving.{GivesFinished}
use Rattle.front_pool.proofs.Rule.{learns_nothing, worker_puts}
use Rattle.front_pool.proofs.worker.Worker.put.Goals as goal

pub push_as-requires-clause-rule : goal.push_as-requires-clause-rule
push_as-requires-clause-rule g c =
    let Is = IsAnsweredByOne g.L.Pooling.site g.L.Sharing.shared in
    (worker_puts Is _ _ _ _ c.requires c.self.invariant.4, learns_nothing GivesFinished Is _ _)
