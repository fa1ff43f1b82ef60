use Rattle.front_pool.specs.declared.job.Job.{Job}
use Rattle.front_pool.specs.Moving.{Anything, GivesJobs}
use Rattle.front_pool.proofs.Rule.{learns_nothing, worker_takes}
use Rattle.front_pool.proofs.worker.Worker.take.Goals as goal

pub pop_as-requires-clause-rule : goal.pop_as-requires-clause-rule
pop_as-requires-clause-rule g c = (worker_takes {T = Job} _ _ c.self.invariant.3, learns_nothing GivesJobs (Anything {T = Job}) _ _)
