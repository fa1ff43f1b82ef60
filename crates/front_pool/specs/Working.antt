-- What a worker has done.
use Rattle.std.specs.Prelude.{◌≡◌, ℕ, ◌+◌, List, [], ◌∷◌, ◌++◌, All, sum_by}
use Rattle.dia_base.specs.declared.number.NodeNo.{NodeNo}
use Rattle.cc_shared.specs.declared.asking.Asked.{Asked}
use Rattle.cc_shared.specs.declared.asking.Served.{Served}
use Rattle.cc_shared.specs.History.{SharedLedger}
use Rattle.front_pool.specs.declared.job.Finished.{Finished}
use Rattle.front_pool.specs.declared.job.Job.{Job}
use Rattle.front_pool.specs.declared.site.PoolSite.{PoolSite}
use Rattle.front_pool.specs.Answering.{AreServed, IsAnsweredByOne, IsAskedOf, IsServedAt}
use Rattle.front_pool.specs.Counting.{takes_served, takes_told}
use Rattle.front_pool.specs.Jobs.{job_of}

-- the front in whose name a worker answers, the jobs that it has taken, those that it has finished, in order, and how many takes of
-- the book its seat has counted
pub record Turns : Type 0 where
  pub front : NodeNo
  pub taken : List Job
  pub finished : List Finished
  pub counted : ℕ

-- a worker that has done nothing yet, at a seat that has counted so many
abbrev pub no_turns : NodeNo → ℕ → Turns
no_turns front counted = record { front = front; taken = []; finished = []; counted = counted }

abbrev pub with_jobs_taken : Turns → List Job → Turns
with_jobs_taken turns jobs = record turns { taken = turns.taken ++ jobs }

abbrev pub with_jobs_finished : Turns → List Finished → Turns
with_jobs_finished turns finished = record turns { finished = turns.finished ++ finished }

-- the seat has counted so many more
abbrev pub with_counted : Turns → ℕ → Turns
with_counted turns more = record turns { counted = turns.counted + more }

-- So many jobs at most were taken behind those that a worker has in hand.
pub record TakesMore (old : Turns) (had has : List Job) (new : Turns) : Type 0 where
  pub more : List Job
  pub has_more : has ≡ had ++ more
  pub is : new ≡ with_jobs_taken old more

-- The messages of these jobs were read. Some are finished, without the book; of the others the book is asked.
pub record ReadsAll (sites : NodeNo → PoolSite) (shared : SharedLedger) (front : NodeNo) (jobs : List Job) (asked : List (Asked Job)) (old new : Turns) : Type 0 where
  pub finished : List Finished
  pub same : (weight : Job → ℕ) → sum_by weight jobs ≡ sum_by (λ done. weight (job_of done)) finished + sum_by (λ one. weight one.job) asked
  pub answered : All (IsAnsweredByOne sites shared) finished
  pub no_takes : takes_told finished ≡ 0
  pub asked_of : All (IsAskedOf (sites front)) asked
  pub is : new ≡ with_jobs_finished old finished

-- The book was asked for these jobs, each once, and has answered.
pub record AsksAll (site : PoolSite) (shared : SharedLedger) (asked : List (Asked Job)) (served : List (Served Job)) (old new : Turns) : Type 0 where
  pub same : (weight : Job → ℕ) → sum_by (λ one. weight one.job) asked ≡ sum_by (λ one. weight one.job) served
  pub served_at : All (IsServedAt site shared) served
  pub is : new ≡ with_counted old (sum_by takes_served served)

-- These jobs are finished, and tell of so many takes.
pub record HandsIn (sites : NodeNo → PoolSite) (shared : SharedLedger) (jobs : List Job) (takes : ℕ) (old new : Turns) : Type 0 where
  pub finished : List Finished
  pub served : AreServed sites shared jobs finished
  pub told : takes_told finished ≡ takes
  pub is : new ≡ with_jobs_finished old finished

-- These jobs were finished, each once, by one answer, and the seat has counted what their receipts tell of.
pub record WorksOff (sites : NodeNo → PoolSite) (shared : SharedLedger) (jobs : List Job) (old new : Turns) : Type 0 where
  pub finished : List Finished
  pub served : AreServed sites shared jobs finished
  pub is : new ≡ with_counted (with_jobs_finished old finished) (takes_told finished)

-- A worker that has taken a job takes others that wait, or none, and finishes them all.
pub record TurnsOver (sites : NodeNo → PoolSite) (shared : SharedLedger) (job : Job) (old new : Turns) : Type 0 where
  pub more : List Job
  pub works : WorksOff sites shared (job ∷ more) (with_jobs_taken old more) new
