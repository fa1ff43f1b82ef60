-- What serves, as a run of the farm: each job has a worker of its own, that of its number.
use Rattle.std.specs.Prelude.{◌≡◌, ◌<◌, ◌≤◌, ℕ, length, zero, suc, List, [], ◌∷◌, map, flat_map, Some, None}
use Rattle.dia_base.specs.declared.number.NodeNo.{NodeNo}
use Rattle.front_core.specs.declared.worker.Job.{Job}
use Rattle.front_core.specs.declared.worker.Worker.{Worker}
use Rattle.front_core.specs.declared.worker.Worker.TheVariants.{Idle, Picked, Done}
use Rattle.front_core.specs.FrontState.{FrontState}
use Rattle.front_pool.specs.declared.job.Job.{Job as PoolJob}
use Rattle.farm_base.specs.declared.site.Site.{Site}
use Rattle.farm_base.specs.declared.step.Step.{Step}
use Rattle.farm_base.specs.declared.step.Step.TheVariants.{Deliver, Crash, Pick, Charge, Refuse, Emit, Sweep, ChangeTerms}
use Rattle.farm_model.specs.declared.state.Trace.{Trace}
use Rattle.farm_model.specs.Promise.{KeepsPromise}
use Rattle.farm_model.specs.Run.{Past, Run, start, steps_in}
use Rattle.farm_model.specs.World.{WorldState, front_at}
use Rattle.pool_law.specs.PoolRun.{AllApply}
use Rattle.pool_law.specs.ServedFarm.{Happening, PoolNow, ServedFarm, Work, nothing, in_hand, finished}
use Rattle.pool_law.specs.ServedFarm.{elsewhere, ignores, hands_over, turns_away, takes, charges, finds_busy, hands_out, goes_unanswered, sweeps, changes_terms, dies}

-- ---- a front

-- The site with so many workers at each front. A worker thread has up to 256 jobs in hand and hands them in without waiting until they are
-- collected, and a worker of the farm has one: so what is a worker here is a job's, and not a thread's.
abbrev pub with_workers : ℕ → Site → Site
with_workers workers site = record site { workers = workers }

abbrev pub worker_of : Work → Worker
worker_of nothing = Idle
worker_of (in_hand conn message) = Picked conn message
worker_of (finished conn answer written) = Done conn answer

-- the workers of the numbers from 0 on, so many
abbrev pub workers_of : ℕ → (ℕ → Work) → List Worker
workers_of zero works = []
workers_of (suc more) works = worker_of (works 0) ∷ workers_of more (λ number. works (suc number))

abbrev pub waiting : PoolJob → Job
waiting job = record { conn = job.conn; request = job.request }

-- The front of the farm that a pool is: its connections and its name are the front's, and its jobs the pool's.
abbrev pub as_front : ℕ → PoolNow → FrontState → FrontState
as_front workers pool front = record {
  site = record front.site { workers = workers };
  connections = front.connections;
  queue = map waiting pool.waiting;
  workers = workers_of workers pool.works;
}

-- ---- what happens, as steps

abbrev pub steps_at : Happening → List Step
steps_at (elsewhere step) = step ∷ []
steps_at (ignores from node place) = Deliver from node place ∷ []
steps_at (hands_over from node place number) = Deliver from node place ∷ []
steps_at (turns_away from node place) = Deliver from node place ∷ []
steps_at (takes node number) = Pick node number ∷ []
steps_at (charges node number moment written) = Charge node number moment ∷ []
steps_at (finds_busy node number written) = Refuse node number ∷ []
steps_at (hands_out node number) = Emit node number ∷ []
steps_at (goes_unanswered node number) = []
steps_at (sweeps moment) = Sweep moment ∷ []
steps_at (changes_terms moment change) = ChangeTerms moment change ∷ []
steps_at (dies node) = Crash node ∷ []

abbrev pub steps_for : List Happening → List Step
steps_for happenings = flat_map steps_at happenings

-- the job that is worked on has a number below this
abbrev pub IsBelow : ℕ → Happening → Type 0
IsBelow workers (elsewhere step) = Unit {0}
IsBelow workers (ignores from node place) = Unit {0}
IsBelow workers (hands_over from node place number) = Unit {0}
IsBelow workers (turns_away from node place) = Unit {0}
IsBelow workers (takes node number) = number < workers
IsBelow workers (charges node number moment written) = number < workers
IsBelow workers (finds_busy node number written) = number < workers
IsBelow workers (hands_out node number) = number < workers
IsBelow workers (goes_unanswered node number) = Unit {0}
IsBelow workers (sweeps moment) = Unit {0}
IsBelow workers (changes_terms moment change) = Unit {0}
IsBelow workers (dies node) = Unit {0}

-- so do all of these
abbrev pub AreBelow : ℕ → List Happening → Type 0
AreBelow workers [] = Unit {0}
AreBelow workers (happening ∷ more) = IsBelow workers happening × AreBelow workers more

-- ---- the run

-- What a farm is that serves: the same connections, messages in flight, relays and book; the same was sent and received; and each front is
-- its pool.
pub record IsAsServed (workers : ℕ) (served : ServedFarm) (w : WorldState) : Type 0 where
  pub directions : w.directions ≡ served.world.directions
  pub fronts : (node : NodeNo) (front : FrontState) → front_at node served.world.fronts ≡ Some front →
      front_at node w.fronts ≡ Some (as_front workers (served.pools node) front)
  pub no_others : (node : NodeNo) → front_at node served.world.fronts ≡ None → front_at node w.fronts ≡ None
  pub relays : w.relays ≡ served.world.relays
  pub book : w.book ≡ served.world.book
  pub sent : w.sent ≡ served.world.sent
  pub received : w.received ≡ served.world.received
  pub ends : w.ends ≡ served.world.ends

-- From its start the farm of the site, with so many workers at each front, takes these steps, all of which apply, and is as what serves.
pub record RunsAsFarm (site : Site) (workers : ℕ) (happenings : List Happening) (served : ServedFarm) : Type 0 where
  pub past : Past
  pub last : WorldState
  pub run : Run (with_workers workers site) (start (with_workers workers site)) past last
  pub steps_are : steps_in past ≡ steps_for happenings
  pub all_apply : AllApply past
  pub as_served : IsAsServed workers served last

-- what is told of what served
abbrev pub trace_of_served : ServedFarm → Trace
trace_of_served served = record {
  sent = served.world.sent;
  received = served.world.received;
  book = served.world.book;
  skipped = 0;
  ends = served.world.ends;
}

-- What served was such a run, with a worker for each number; what was sent and received and the book keep what is promised of a run; and
-- no more requests wait at a front than the site lets.
pub record ServesAsPromised (site : Site) (happenings : List Happening) (served : ServedFarm) : Type 0 where
  pub workers : ℕ
  pub runs : RunsAsFarm site workers happenings served
  pub promise : KeepsPromise (with_workers workers site) runs.past (trace_of_served served)
  pub waiting_fit : (node : NodeNo) → length (served.pools node).waiting ≤ site.queue
