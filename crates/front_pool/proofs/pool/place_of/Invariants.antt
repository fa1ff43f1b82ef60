use Rattle.std.proofs.Common.{◌≡◌, ◌<◌, ℕ, get_or}
use Rattle.front_pool.specs.declared.job.Job.{Job}
use Rattle.front_pool.specs.Jobs.{job_of}
use Rattle.front_pool.proofs.pool.place_of.Given as goal

abbrev pub invariant-loop-place : goal.invariant-loop-place
invariant-loop-place l = (k : ℕ) (d : Job) → k < l.place → get_or l.jobs k d ≡ job_of l.finished → ⊥
