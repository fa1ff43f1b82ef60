-- A batch of jobs that the book serves at one call, as it happens to a farm that serves.
use Rattle.std.specs.Prelude.{◌≡◌, ◌==◌, ℕ, Bool, false, List, [], ◌∷◌, map, Result, Ok, Err}
use Rattle.dia_base.specs.declared.number.Moment.{Moment}
use Rattle.dia_base.specs.declared.number.NodeNo.{NodeNo}
use Rattle.cc_view.specs.RequestView.{view_under}
use Rattle.cc_shared.specs.declared.asking.Asked.{Asked}
use Rattle.cc_shared.specs.declared.asking.Served.{Served}
use Rattle.cc_shared.specs.declared.error.ServeError.{ServeError}
use Rattle.cc_shared.specs.declared.error.ServeRefusal.{ServeRefusal}
use Rattle.cc_shared.specs.declared.error.ServeRefusal.TheVariants.{Full, OutOfMemory, Closed}
use Rattle.cc_shared.specs.declared.logged.Logged.{Logged}
use Rattle.cc_shared.specs.declared.receipt.Receipt.{Receipt}
use Rattle.cc_shared.specs.History.{SharedLedger, book_at}
use Rattle.front_core.specs.declared.site.FrontSite.{FrontSite}
use Rattle.front_pool.specs.declared.job.Job.{Job}
use Rattle.farm_base.specs.declared.site.Site.{Site}
use Rattle.pool_law.specs.ServedFarm.{Happening, PoolNow, ServedFarm, Serves, charges, finds_busy, in_hand}

-- ---- what comes of a job

abbrev pub by_why : NodeNo → ℕ → Moment → Bool → ServeRefusal → Happening
by_why node number moment written (Full limit) = charges node number moment written
by_why node number moment written OutOfMemory = finds_busy node number written
by_why node number moment written Closed = finds_busy node number written

abbrev pub by_result : NodeNo → ℕ → Moment → Bool → Result Receipt ServeError → Happening
by_result node number moment written (Ok receipt) = charges node number moment written
by_result node number moment written (Err error) = by_why node number moment written error.why

-- There is memory for its answer, or not.
abbrev pub comes_of : NodeNo → Bool → Served Job → Happening
comes_of node written served = by_result node served.job.number served.moment written served.result

-- ---- a batch

-- none of these jobs has the number
abbrev pub HasNone : ℕ → List (Asked Job) → Type 0
HasNone number [] = Unit {0}
HasNone number (asked ∷ more) = ((asked.job.number == number) ≡ false) × HasNone number more

-- A worker has these jobs in hand, each under a number of its own, and asks the book what is read in them (`Worker`: `ReadsAll`).
abbrev pub AreInHand : FrontSite → PoolNow → List (Asked Job) → Type 0
AreInHand site pool [] = Unit {0}
AreInHand site pool (asked ∷ more) =
    (pool.works asked.job.number ≡ in_hand asked.job.conn asked.job.request) × (view_under site.profile asked.job.request ≡ Ok asked.request)
    × HasNone asked.job.number more × AreInHand site pool more

-- What came of the jobs happened one after the other, with nothing between, and the book is as the call has left it.
pub record HappensInARow (site : Site) (shared : SharedLedger) (old : ServedFarm) (node : NodeNo) (written : Bool) (served : List (Served Job))
    (behind : List Logged) : Type 0 where
  pub new : ServedFarm
  pub happens : Serves site old (map (comes_of node written) served) new
  pub book : new.world.book ≡ book_at shared.opened behind
