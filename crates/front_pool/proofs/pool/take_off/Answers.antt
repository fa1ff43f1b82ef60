use Rattle.std.proofs.Common.{List, subst, sym}
use Rattle.front_pool.specs.declared.job.Job.{Job}
use Rattle.front_pool.specs.Jobs.{job_of}
use Rattle.front_pool.specs.Keeping.{IsTakenOff}
use Rattle.front_pool.proofs.pool.take_off.Goals as goal

pub returns-in_default-clause-stranger : goal.returns-in_default-clause-stranger
returns-in_default-clause-stranger c _ _ rest off =
    c.in_default.ensures.none rest (subst (λ (jobs : List Job). IsTakenOff (job_of c.args.finished.now) jobs rest) (sym c.deref.ensures.value) off)
