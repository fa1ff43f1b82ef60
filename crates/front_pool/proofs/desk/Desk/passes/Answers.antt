use Rattle.front_pool.specs.declared.job.Job.{Job}
use Rattle.front_pool.specs.Answering.{IsAnsweredByOne}
use Rattle.front_pool.specs.Moving.{Anything}
use Rattle.front_pool.proofs.Rule.{hires_for_finished, hires_for_jobs}
use Rattle.front_pool.proofs.desk.Desk.passes.Goals as goal

pub another-to_take-requires-clause-rule : goal.another-to_take-requires-clause-rule
another-to_take-requires-clause-rule g c = hires_for_jobs (Anything {T = Job}) _ _

pub another-to_put-requires-clause-rule : goal.another-to_put-requires-clause-rule
another-to_put-requires-clause-rule g c = hires_for_finished (IsAnsweredByOne g.L.Pooling.site g.L.Sharing.shared) _ _
