-- What a front does at each event.
use Rattle.std.specs.Prelude.{◌≡◌, ◌==◌, ℕ, Bool, true, false, not, List, [], ◌∷◌, ◌++◌, filter, length, replicate, nat_lt, Option, Some, None, slice_get, slice_set, if◌then◌else◌}
use Rattle.dia_base.specs.declared.number.ConnId.{ConnId}
use Rattle.dia_base.specs.declared.number.Moment.{Moment}
use Rattle.dia_message.specs.declared.message.Message.{Message}
use Rattle.dia_message.specs.declared.message.Out.{Out}
use Rattle.dia_message.specs.Traffic.{Traffic}
use Rattle.cc_view.specs.declared.code.ResultCode.TheVariants.{TooBusy}
use Rattle.cc_view.specs.Answer.{refusal_of}
use Rattle.cc_view.specs.Refusal.{refusal_with}
use Rattle.cc_view.specs.RequestView.{view_under}
use Rattle.cc_book.specs.Taking.{Ledger}
use Rattle.front_core.specs.declared.preparing.Prepared.{Prepared}
use Rattle.front_core.specs.declared.site.FrontSite.{FrontSite}
use Rattle.front_core.specs.declared.worker.Job.{Job}
use Rattle.front_core.specs.declared.worker.Worker.{Worker}
use Rattle.front_core.specs.declared.worker.Worker.TheVariants.{Idle, Picked, Done}
use Rattle.front_core.specs.Charging.{preparation_of, answer_in, book_after}
use Rattle.front_core.specs.FrontState.{FrontState, is_among}

-- ---- a connection comes up

abbrev pub with_connection : FrontState → ConnId → FrontState
with_connection front conn = if is_among front.connections conn then front else record front { connections = front.connections ++ conn ∷ [] }

-- ---- a connection is lost: jobs that came on it stay where they are

abbrev pub without_connection : FrontState → ConnId → FrontState
without_connection front conn = record front { connections = filter (λ c. not (c.0 == conn.0)) front.connections }

-- ---- the front restarts: connections, queue and workers are emptied

abbrev pub after_restart : FrontState → FrontState
after_restart front = record front { connections = []; queue = []; workers = replicate (length front.workers) Idle }

-- ---- a message arrives

abbrev pub with_job : FrontState → ConnId → Message → FrontState
with_job front conn message = record front { queue = front.queue ++ record { conn = conn; request = message } ∷ [] }

-- the refusal of a request that the front is too busy for
abbrev pub too_busy : FrontSite → Message → Message
too_busy site message = refusal_of site.name site.realm message (refusal_with TooBusy)

-- A request joins the queue, or is answered at once where the queue is full. A message without R is ignored.
abbrev pub after_arrival : FrontState → ConnId → Message → FrontState
after_arrival front conn message = if message.header.request then (if nat_lt (length front.queue) front.site.queue then with_job front conn message else front) else front

abbrev pub sent_at_arrival : FrontState → ConnId → Message → Traffic
sent_at_arrival front conn message =
    if message.header.request then
    (if nat_lt (length front.queue) front.site.queue then [] else (conn, too_busy front.site message) ∷ [])
    else []

-- ---- a worker picks: the first job goes to an idle worker, if both are there

abbrev pub with_worker : FrontState → ℕ → Worker → FrontState
with_worker front worker held = record front { workers = slice_set front.workers worker held }

abbrev pub after_pick_from : FrontState → ℕ → List Job → Option FrontState
after_pick_from front worker [] = None
after_pick_from front worker (job ∷ jobs) = Some (with_worker (record front { queue = jobs }) worker (Picked job.conn job.request))

abbrev pub after_pick_by : FrontState → ℕ → Option Worker → Option FrontState
after_pick_by front worker (Some Idle) = after_pick_from front worker front.queue
after_pick_by front worker (Some (Picked conn message)) = None
after_pick_by front worker (Some (Done conn answer)) = None
after_pick_by front worker None = None

-- the front after a pick, none where it does not apply
abbrev pub after_pick : FrontState → ℕ → Option FrontState
after_pick front worker = after_pick_by front worker (slice_get front.workers worker)

-- ---- a worker refuses by order: what it picked and did not charge, it refuses without the book

abbrev pub after_refusal_by : FrontState → ℕ → Option Worker → Option FrontState
after_refusal_by front worker (Some (Picked conn message)) = Some (with_worker front worker (Done conn (too_busy front.site message)))
after_refusal_by front worker (Some Idle) = None
after_refusal_by front worker (Some (Done conn answer)) = None
after_refusal_by front worker None = None

-- the front after a refusal, none where it does not apply
abbrev pub after_refusal : FrontState → ℕ → Option FrontState
after_refusal front worker = after_refusal_by front worker (slice_get front.workers worker)

-- ---- a worker emits: it is free again, and its answer goes out if the connection is still there

abbrev pub after_emit_by : FrontState → ℕ → Option Worker → Option (FrontState × Traffic)
after_emit_by front worker (Some (Done conn answer)) = Some (with_worker front worker Idle, (if is_among front.connections conn then (conn, answer) ∷ [] else []))
after_emit_by front worker (Some Idle) = None
after_emit_by front worker (Some (Picked conn message)) = None
after_emit_by front worker None = None

abbrev pub after_emit : FrontState → ℕ → Option (FrontState × Traffic)
after_emit front worker = after_emit_by front worker (slice_get front.workers worker)

-- ---- a worker charges: it holds the answer then

-- what a front of this site knows of a message before the book is asked
abbrev pub preparation_at : FrontSite → Message → Prepared
preparation_at site message = preparation_of site.name site.realm message (view_under site.profile message)

abbrev pub after_charge_by : FrontState → Ledger → Moment → ℕ → Option Worker → Option (FrontState × Ledger)
after_charge_by front ledger moment worker (Some (Picked conn message)) =
    Some (with_worker front worker (Done conn (answer_in front.site ledger message (preparation_at front.site message))), book_after ledger moment (preparation_at front.site message))
after_charge_by front ledger moment worker (Some Idle) = None
after_charge_by front ledger moment worker (Some (Done conn answer)) = None
after_charge_by front ledger moment worker None = None

-- the front and the book after a charge, none where it does not apply
abbrev pub after_charge : FrontState → Ledger → Moment → ℕ → Option (FrontState × Ledger)
after_charge front ledger moment worker = after_charge_by front ledger moment worker (slice_get front.workers worker)

-- ---- what a call answers, and what it leaves: where the step does not apply, what was there before

-- a pick or a refusal
abbrev pub Applies : Option FrontState → Bool → FrontState → FrontState → Type 0
Applies None applied old new = (applied ≡ false) × (new ≡ old)
Applies (Some next) applied old new = (applied ≡ true) × (new ≡ next)

abbrev pub Emits : Option (FrontState × Traffic) → Option Out → FrontState → FrontState → Type 0
Emits None None old new = new ≡ old
Emits None (Some out) old new = ⊥
Emits (Some turn) None old new = ⊥
Emits (Some turn) (Some out) old new = (out.items ≡ turn.1) × (new ≡ turn.0)

abbrev pub Charges : Option (FrontState × Ledger) → Bool → FrontState → Ledger → FrontState → Ledger → Type 0
Charges None applied old book new book' = (applied ≡ false) × (new ≡ old) × (book' ≡ book)
Charges (Some turn) applied old book new book' = (applied ≡ true) × (new ≡ turn.0) × (book' ≡ turn.1)
