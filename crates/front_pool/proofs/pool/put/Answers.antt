use Rattle.front_pool.specs.declared.job.Job.{Job}
use Rattle.front_pool.specs.Moving.{Anything}
use Rattle.front_pool.proofs.Rule.{holds_what_was_put, pool_puts}
use Rattle.front_pool.proofs.pool.put.Goals as goal

pub push_as-requires-clause-rule : goal.push_as-requires-clause-rule
push_as-requires-clause-rule g c =
    (pool_puts (Anything {T = Job}) _ _ _ _ tt c.loop.invariant.by_pool, holds_what_was_put _ _ c.loop.invariant.by_pool)
