use Rattle.std.proofs.Common.{ap, ◌∙◌}
use Rattle.front_pool.specs.Answering.{IsAnsweredByOne}
use Rattle.front_pool.specs.Moving.{GivesFinished}
use Rattle.front_pool.specs.declared.job.Finished.{Finished}
use Rattle.front_pool.specs.declared.queues.Moves.{Moves}
use Rattle.front_pool.proofs.Rule.{learns_nothing, pool_takes}
use Rattle.front_pool.proofs.pool.Pool.take.Goals as goal

pub pop_as-requires-clause-rule : goal.pop_as-requires-clause-rule
pop_as-requires-clause-rule g c =
    let Is = IsAnsweredByOne g.L.Pooling.site g.L.Sharing.shared in
    let pools = ap (λ (known : Moves Finished). known.by_pool) c.len_as-there.ensures.queue.1 ∙ c.self.invariant.3 in
    (pool_takes Is _ _ pools, learns_nothing GivesFinished Is _ _)
