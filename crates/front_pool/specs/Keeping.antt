-- What a pool does with the jobs that it was handed.
use Rattle.std.specs.Prelude.{◌≡◌, ◌⊎◌, ℕ, ◌+◌, ◌-◌, ◌^◌, ◌≤◌, ◌<◌, List, [], ◌∷◌, ◌++◌, length, min, slice_index_or, All, Option, Some, None, Result, Ok, Err}
use Rattle.std.specs.List.Sorted.{IsPermutation}
use Rattle.dia_base.specs.declared.number.ConnId.{ConnId}
use Rattle.dia_base.specs.declared.number.NodeNo.{NodeNo}
use Rattle.dia_message.specs.declared.message.Message.{Message}
use Rattle.front_pool.specs.declared.error.SubmitError.{SubmitError}
use Rattle.front_pool.specs.declared.error.SubmitError.TheVariants.{PoolFull, OutOfMemory}
use Rattle.front_pool.specs.declared.job.Finished.{Finished}
use Rattle.front_pool.specs.declared.job.Job.{Job}
use Rattle.front_pool.specs.Jobs.{job_of, jobs_of}

-- A pool, as contracts see it: the front in whose name it answers, how many workers it has, how many jobs may wait for them, the last
-- number that it has given, and the jobs that were handed over and not yet collected, the first to come first. Then all that it has put
-- into the queue of its workers' jobs, all that it has taken out of the queue of those that they have finished, and how many of these it
-- has dropped, since it waited for none of them.
pub record PoolState : Type 0 where
  pub front : NodeNo
  pub workers : ℕ
  pub room : ℕ
  pub last : ℕ
  pub unanswered : List Job
  pub put : List Job
  pub taken : List Finished
  pub strangers : ℕ

-- each job's number is greater than those of the jobs before it
abbrev pub IsRising : ℕ → List Job → Type 0
IsRising above [] = Unit {0}
IsRising above (job ∷ jobs) = (above < job.number) × IsRising job.number jobs

-- a pool before its first job
abbrev pub new_pool : NodeNo → ℕ → ℕ → PoolState
new_pool front workers room = record { front = front; workers = workers; room = room; last = 0; unanswered = []; put = []; taken = []; strangers = 0 }

-- the job that a request becomes: it has the next number
abbrev pub next_job : PoolState → ConnId → Message → Job
next_job pool conn request = record { number = pool.last + 1; conn = conn; request = request }

-- the job is kept, and put into the queue of the workers, once
abbrev pub with_job : PoolState → Job → PoolState
with_job pool job = record pool { last = job.number; unanswered = pool.unanswered ++ job ∷ []; put = pool.put ++ job ∷ [] }

-- the request that was not handed over
abbrev pub handed_back : SubmitError → Message
handed_back (PoolFull request) = request
handed_back (OutOfMemory request) = request

-- As many jobs were put into the queue as it has room for, and as many are unanswered; or each number is given.
abbrev pub IsFull : PoolState → Type 0
IsFull pool = ((pool.room ≤ length pool.put) × (pool.room ≤ length pool.unanswered)) ⊎ (pool.last ≡ 2 ^ 64 - 1)

-- why a request is not handed over
abbrev pub HasCause : SubmitError → PoolState → Type 0
HasCause (PoolFull request) pool = IsFull pool
HasCause (OutOfMemory request) pool = Unit {0}

-- A request that is handed over is a job more, under the next number, and the queue has that job more and no other. One that is not
-- comes back, and the pool is as it was.
abbrev pub HandsBack : PoolState → ConnId → Message → Result ℕ SubmitError → PoolState → Type 0
HandsBack old conn request (Ok number) new = (number ≡ old.last + 1) × (new ≡ with_job old (next_job old conn request))
HandsBack old conn request (Err error) new = (handed_back error ≡ request) × HasCause error old × (new ≡ old)

-- the job is the one at this place
abbrev pub IsAt : List Job → ℕ → Job → Type 0
IsAt jobs place job = (place < length jobs) × (job ≡ slice_index_or jobs place job)

-- the job was among these, and is not among those
pub record IsTakenOff (job : Job) (old new : List Job) : Type 0 where
  pub before : List Job
  pub behind : List Job
  pub was : old ≡ before ++ job ∷ behind
  pub is : new ≡ before ++ behind

-- A finished job that is none of those that the pool waits for: it has another front's name, or no job of the pool is unanswered that
-- is this one.
abbrev pub IsStranger : PoolState → Finished → Type 0
IsStranger pool finished = finished.front ≡ pool.front → (rest : List Job) → IsTakenOff (job_of finished) pool.unanswered rest → ⊥

-- so many more of what is counted, up to the greatest number
abbrev pub more_by : ℕ → ℕ → ℕ
more_by count more = count + min more (18446744073709551615 - count)

-- A finished job that the pool waits for is taken out of the queue, and those before it that are strangers are dropped, and counted. From
-- then on it is collected, and nothing else has changed.
pub record Collected (old : PoolState) (finished : Finished) (new : PoolState) : Type 0 where
  pub strangers : List Finished
  pub are_strangers : All (IsStranger old) strangers
  pub off : IsTakenOff (job_of finished) old.unanswered new.unanswered
  pub is : new ≡ record old {
    unanswered = new.unanswered;
    taken = old.taken ++ (strangers ++ finished ∷ []);
    strangers = more_by old.strangers (length strangers);
  }

-- No finished job that the pool waits for was in the queue; what was there were strangers, which are dropped, and counted.
pub record FoundNone (old new : PoolState) : Type 0 where
  pub strangers : List Finished
  pub are_strangers : All (IsStranger old) strangers
  pub is : new ≡ record old { taken = old.taken ++ strangers; strangers = more_by old.strangers (length strangers) }

-- what a pool does that looks for a finished job
abbrev pub Collects : PoolState → Option Finished → PoolState → Type 0
Collects old None new = FoundNone old new
Collects old (Some finished) new = Collected old finished new

-- No two jobs have one number, and none has a number that was not given.
pub record IsNumbered (jobs : List Job) (last : ℕ) : Type 0 where
  pub rising : IsRising 0 jobs
  pub given : All (λ job. job.number ≤ last) jobs

-- A pool that has stopped: each job that was handed over and not collected is there once, finished or not, and there is a seat
-- for each worker.
pub record Balances (pool : PoolState) (seats : ℕ) (finished : List Finished) (unserved : List Job) : Type 0 where
  pub jobs : IsPermutation pool.unanswered (jobs_of finished ++ unserved)
  pub rising : IsRising 0 pool.unanswered
  pub seats_are : seats ≡ pool.workers
