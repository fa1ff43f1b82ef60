-- A farm as it serves. Its clients, its relays and its connections are those of `farm_model`; its fronts are pools of worker threads
-- on one book, all in one process. What happens to it, one thing after the other: each thing is allowed where a clause of the
-- code says what it says here, and the clause stands beside it.
use Rattle.std.specs.Prelude.{◌≡◌, ◌==◌, ◌≤◌, ◌<◌, ℕ, Bool, true, false, ◌&&◌, List, [], ◌∷◌, ◌++◌, length, Some, None, Ok, Err, if◌then◌else◌}
use Rattle.dia_base.specs.declared.number.ConnId.{ConnId}
use Rattle.dia_base.specs.declared.number.Moment.{Moment}
use Rattle.dia_base.specs.declared.number.NodeNo.{NodeNo}
use Rattle.dia_message.specs.declared.message.Message.{Message}
use Rattle.dia_message.specs.Traffic.{Traffic}
use Rattle.cc_view.specs.declared.refusal.Refusal.{Refusal}
use Rattle.cc_view.specs.declared.request.CcRequest.{CcRequest}
use Rattle.cc_view.specs.Answer.{refusal_of}
use Rattle.cc_view.specs.RequestView.{view_under}
use Rattle.cc_book.specs.declared.terms_change.TermsChange.{TermsChange}
use Rattle.cc_book.specs.Changing.{ChangesWith, after_change_with, change_answer}
use Rattle.cc_book.specs.Taking.{Ledger}
use Rattle.cc_shared.specs.declared.error.ServeError.{ServeError}
use Rattle.cc_shared.specs.declared.error.ServeRefusal.TheVariants.{Full}
use Rattle.cc_shared.specs.declared.logged.Logged.{Logged}
use Rattle.cc_shared.specs.declared.looks.Swept.{Swept}
use Rattle.cc_shared.specs.declared.receipt.Receipt.{Receipt}
use Rattle.cc_shared.specs.History.{SharedLedger, book_at}
use Rattle.cc_shared.specs.Serving.{ServesOne}
use Rattle.cc_shared.specs.Sharing.{HasSwept}
use Rattle.front_core.specs.declared.site.FrontSite.{FrontSite}
use Rattle.front_core.specs.FrontState.{FrontState, is_among}
use Rattle.front_core.specs.FrontStep.{too_busy}
use Rattle.front_pool.specs.declared.job.Job.{Job}
use Rattle.front_pool.specs.Charging.{answer_with}
use Rattle.farm_base.specs.declared.site.Site.{Site}
use Rattle.farm_base.specs.declared.step.Step.{Step}
use Rattle.farm_base.specs.declared.step.Step.TheVariants.{Up, Accept, Opened, Send, Deliver, Lose, Cut, Drop}
use Rattle.farm_base.specs.declared.step.Step.TheVariants.{Restart, Crash, Pick, Charge, Refuse, Emit, Sweep, ChangeTerms}
use Rattle.farm_base.specs.Nodes.{is_front, is_node}
use Rattle.farm_model.specs.declared.state.Direction.{Direction}
use Rattle.farm_model.specs.FarmStep.{FarmStep, Flight, flight_at}
use Rattle.farm_model.specs.Loss.{LossAt, after_crash}
use Rattle.farm_model.specs.Run.{start}
use Rattle.farm_model.specs.World.{WorldState, front_at, with_traffic_from}

-- ---- a pool

-- What has become of the job of a number. It was not taken yet, or is done with; a worker has it in hand; or it is finished and not
-- collected, with the answer that it is due, and whether there was memory to write that.
pub data Work : Type 0 where
  nothing : Work
  in_hand : ConnId → Message → Work
  finished : ConnId → Message → Bool → Work

-- The pool of a front: the jobs that wait in its queue, the first to come first, and what has become of the job of each number.
pub record PoolNow : Type 0 where
  pub waiting : List Job
  pub works : ℕ → Work

abbrev pub new_pool : PoolNow
new_pool = record { waiting = []; works = λ number. nothing }

abbrev pub with_waiting : PoolNow → List Job → PoolNow
with_waiting pool jobs = record pool { waiting = jobs }

abbrev pub with_work : PoolNow → ℕ → Work → PoolNow
with_work pool number work = record pool { works = λ other. if other == number then work else pool.works other }

-- ---- the farm

-- Of its fronts the world tells the connections and how they are set up, and nothing else: their jobs are in the pools.
pub record ServedFarm : Type 0 where
  pub world : WorldState
  pub pools : NodeNo → PoolNow

-- before anything has happened
abbrev pub new_served : Site → ServedFarm
new_served site = record { world = start site; pools = λ node. new_pool }

abbrev pub with_pool : (NodeNo → PoolNow) → NodeNo → PoolNow → NodeNo → PoolNow
with_pool pools node pool other = if is_node node other then pool else pools other

-- the pool of one front changed
abbrev pub with_pool_at : ServedFarm → NodeNo → PoolNow → ServedFarm
with_pool_at s node pool = record s { pools = with_pool s.pools node pool }

-- what is in flight changed
abbrev pub with_flights : ServedFarm → List Direction → ServedFarm
with_flights s directions = record s { world = record s.world { directions = directions } }

abbrev pub with_book : ServedFarm → Ledger → ServedFarm
with_book s book = record s { world = record s.world { book = book } }

-- ---- what happens

-- A message that comes is named by the node that sent it, the front, and its place among those in flight between them; a job by its
-- front and its number.
pub data Happening : Type 0 where
  -- a step of the farm at its clients, its relays and its connections
  elsewhere : Step → Happening
  -- A front ignores a message that comes.
  ignores : NodeNo → NodeNo → ℕ → Happening
  -- It hands a request over to its workers, as the job of this number.
  hands_over : NodeNo → NodeNo → ℕ → ℕ → Happening
  -- It answers DIAMETER_TOO_BUSY at once, since its queue is full.
  turns_away : NodeNo → NodeNo → ℕ → Happening
  -- A worker takes the first job that waits, which has this number.
  takes : NodeNo → ℕ → Happening
  -- A worker finishes a job as the book has it at this moment, and has memory for the answer or not.
  charges : NodeNo → ℕ → Moment → Bool → Happening
  -- A worker finishes a job without the book, for want of memory, of the time or of an open book; and has memory for the answer or not.
  finds_busy : NodeNo → ℕ → Bool → Happening
  -- The answer of a job is handed out.
  hands_out : NodeNo → ℕ → Happening
  -- A job is found finished without an answer.
  goes_unanswered : NodeNo → ℕ → Happening
  -- The book is swept at this moment.
  sweeps : Moment → Happening
  -- The terms of the book change at this moment.
  changes_terms : Moment → TermsChange → Happening
  -- The process of this front dies, and another one goes on with its book.
  dies : NodeNo → Happening

-- ---- elsewhere

-- The step is of no front: messages come to fronts, fronts begin anew and their workers do what they do by other happenings.
abbrev pub IsElsewhere : WorldState → Step → Type 0
IsElsewhere w (Up a b) = Unit {0}
IsElsewhere w (Accept at from) = Unit {0}
IsElsewhere w (Opened a b) = Unit {0}
IsElsewhere w (Send client to message) = Unit {0}
IsElsewhere w (Deliver from to place) = front_at to w.fronts ≡ None
IsElsewhere w (Lose from to place) = Unit {0}
IsElsewhere w (Cut a b) = Unit {0}
IsElsewhere w (Drop a b) = Unit {0}
IsElsewhere w (Restart node) = front_at node w.fronts ≡ None
IsElsewhere w (Crash node) = front_at node w.fronts ≡ None
IsElsewhere w (Pick front worker) = ⊥
IsElsewhere w (Charge front worker moment) = ⊥
IsElsewhere w (Refuse front worker) = ⊥
IsElsewhere w (Emit front worker) = ⊥
IsElsewhere w (Sweep moment) = ⊥
IsElsewhere w (ChangeTerms moment change) = ⊥

-- A step that applies. Where a connection comes up or ends at a front, that has the connection more, or no more
-- (`PoolFront::conn_up`, `conn_lost`), and its jobs stay as they are.
pub record HappensElsewhere (site : Site) (old : ServedFarm) (step : Step) (new : ServedFarm) : Type 0 where
  pub of_no_front : IsElsewhere old.world step
  pub world : WorldState
  pub losses : List LossAt
  pub goes : FarmStep site old.world step true losses world
  pub is : new ≡ record old { world = world }

-- ---- a message comes to a front

pub record Stands (old : ServedFarm) (node : NodeNo) : Type 0 where
  pub front : FrontState
  pub there : front_at node old.world.fronts ≡ Some front

-- The message at this place of those in flight from a node to a front comes to that.
pub record Comes (site : Site) (old : ServedFarm) (from node : NodeNo) (place : ℕ) : Type 0 where
  pub is_one : is_front site node ≡ true
  pub at : Stands old node
  pub flight : Flight
  pub flies : flight_at old.world.directions from node place ≡ Some flight

-- whether its connection is up
abbrev pub is_up : FrontState → Flight → Bool
is_up front flight = is_among front.connections flight.conn

-- The connection is not up (`OnFrontsEvent`: the node is told `UnknownConn`), or the message is no request (`PoolFront::on_message`).
pub record Ignores (site : Site) (old : ServedFarm) (from node : NodeNo) (place : ℕ) (new : ServedFarm) : Type 0 where
  pub comes : Comes site old from node place
  pub no_request : (is_up comes.at.front comes.flight && comes.flight.message.header.request) ≡ false
  pub is : new ≡ with_flights old comes.flight.directions

-- A request comes on a connection that is up.
pub record Asks (site : Site) (old : ServedFarm) (from node : NodeNo) (place : ℕ) : Type 0 where
  pub comes : Comes site old from node place
  pub up : is_up comes.at.front comes.flight ≡ true
  pub request : comes.flight.message.header.request ≡ true

-- the job that a message becomes
abbrev pub job_of : ℕ → Flight → Job
job_of number flight = record { number = number; conn = flight.conn; request = flight.message }

-- There is room in the queue: the job is put there, behind the others (`Pool::submit`: `HandsBack` of `Ok`; `push_as` of its queue).
pub record HandsOver (site : Site) (old : ServedFarm) (from node : NodeNo) (place number : ℕ) (new : ServedFarm) : Type 0 where
  pub asks : Asks site old from node place
  pub room : length (old.pools node).waiting < asks.comes.at.front.site.queue
  pub is :
      new ≡ with_pool_at (with_flights old asks.comes.flight.directions) node
      (with_waiting (old.pools node) ((old.pools node).waiting ++ job_of number asks.comes.flight ∷ []))

-- The queue is full (`Pool::submit`: `HandsBack` of `PoolFull`, where `push_as` of its queue answers `Err`, since as many jobs as it has
-- room for were `Held` there): the front answers at once (`PoolFront::on_message`: `OnMessage` of `Ok (Some out)`).
pub record TurnsAway (site : Site) (old : ServedFarm) (from node : NodeNo) (place : ℕ) (new : ServedFarm) : Type 0 where
  pub asks : Asks site old from node place
  pub full : asks.comes.at.front.site.queue ≤ length (old.pools node).waiting
  pub is :
      new ≡ with_flights old (with_traffic_from node asks.comes.flight.directions
      ((asks.comes.flight.conn, too_busy asks.comes.at.front.site asks.comes.flight.message) ∷ []))

-- ---- a job is worked on

-- The first job that waits is taken (`pop_as` of the queue), and no other job of its number is at work (`IsNumbered`).
pub record Takes (old : ServedFarm) (node : NodeNo) (number : ℕ) (new : ServedFarm) : Type 0 where
  pub at : Stands old node
  pub conn : ConnId
  pub request : Message
  pub behind : List Job
  pub first : (old.pools node).waiting ≡ record { number = number; conn = conn; request = request } ∷ behind
  pub alone : (old.pools node).works number ≡ nothing
  pub is : new ≡ with_pool_at old node (with_work (with_waiting (old.pools node) behind) number (in_hand conn request))

-- a worker has the job in hand
pub record Holds (old : ServedFarm) (node : NodeNo) (number : ℕ) : Type 0 where
  pub at : Stands old node
  pub conn : ConnId
  pub message : Message
  pub held : (old.pools node).works number ≡ in_hand conn message

-- the job is finished with this answer
abbrev pub with_answer : (old : ServedFarm) → NodeNo → ℕ → ConnId → Message → Bool → ServedFarm
with_answer old node number conn answer written = with_pool_at old node (with_work (old.pools node) number (finished conn answer written))

-- How a book has a message that a front of this site asks it at a moment: the answer that is due, and the book behind it. The clauses
-- are those of `SharedBook::serve` and `serve_all`, in which a batch is one request behind the other, and of `Answers`.
pub data HasIt (site : FrontSite) (book : Ledger) (moment : Moment) (message : Message) : Message → Ledger → Type 0 where
  -- It has served the request that is read in the message. The receipt stands in its history, and what is told is stored.
  serves :
      (request : CcRequest) (shared : SharedLedger) (count : ℕ) (before behind : List Logged) (receipt : Receipt)
      → view_under site.profile message ≡ Ok request → book ≡ book_at shared.opened before
      → ServesOne shared count moment request before (Ok receipt) behind
      → HasIt site book moment message (answer_with site message receipt) (book_at shared.opened behind)
  -- It is full.
  is_full :
      (request : CcRequest) (shared : SharedLedger) (count : ℕ) (before behind : List Logged) (error : ServeError) (limit : ℕ)
      → view_under site.profile message ≡ Ok request → book ≡ book_at shared.opened before
      → ServesOne shared count moment request before (Err error) behind → error.why ≡ Full limit
      → HasIt site book moment message (too_busy site message) book
  -- What is read in the message is refused, and the book is not asked.
  is_not_asked :
      (refusal : Refusal) → view_under site.profile message ≡ Err refusal
      → HasIt site book moment message (refusal_of site.name site.realm message refusal) book

pub record Charges (old : ServedFarm) (node : NodeNo) (number : ℕ) (moment : Moment) (written : Bool) (new : ServedFarm) : Type 0 where
  pub holds : Holds old node number
  pub answer : Message
  pub book : Ledger
  pub has_it : HasIt holds.at.front.site old.world.book moment holds.message answer book
  pub is : new ≡ with_answer (with_book old book) node number holds.conn answer written

-- `Answers`: `is_too_busy`
pub record FindsBusy (old : ServedFarm) (node : NodeNo) (number : ℕ) (written : Bool) (new : ServedFarm) : Type 0 where
  pub holds : Holds old node number
  pub is : new ≡ with_answer old node number holds.conn (too_busy holds.at.front.site holds.message) written

-- a job is finished, with an answer or without
pub record IsFinished (old : ServedFarm) (node : NodeNo) (number : ℕ) (written : Bool) : Type 0 where
  pub at : Stands old node
  pub conn : ConnId
  pub answer : Message
  pub held : (old.pools node).works number ≡ finished conn answer written

-- what goes out for an answer: it, where its connection is up
abbrev pub sent_for : FrontState → ConnId → Message → Traffic
sent_for front conn answer = if is_among front.connections conn then (conn, answer) ∷ [] else []

-- It is collected (`PoolFront::collect`: `CollectsOne`), and its answer goes out where its connection is up (`PoolFront::post`).
pub record HandsOut (old : ServedFarm) (node : NodeNo) (number : ℕ) (new : ServedFarm) : Type 0 where
  pub done : IsFinished old node number true
  pub is :
      new ≡ with_pool_at (with_flights old (with_traffic_from node old.world.directions (sent_for done.at.front done.conn done.answer))) node
      (with_work (old.pools node) number nothing)

-- It is collected, and nothing goes out for it (`PoolFront::post`: `Unanswered`): its answer stays where it is.
pub record GoesUnanswered (old : ServedFarm) (node : NodeNo) (number : ℕ) (new : ServedFarm) : Type 0 where
  pub done : IsFinished old node number false
  pub is : new ≡ old

-- ---- the book is swept, its terms change, and processes die

-- `SharedBook::sweep`: `IsSweep` of an open book
pub record Sweeps (old : ServedFarm) (moment : Moment) (new : ServedFarm) : Type 0 where
  pub shared : SharedLedger
  pub swept : Swept
  pub has_swept : HasSwept shared.opened moment swept
  pub book : old.world.book ≡ book_at shared.opened has_swept.before
  pub is : new ≡ with_book old (book_at shared.opened swept.seen.log)

-- `Book::change_terms`, which has answered the place of the entry. It may come while a process serves, as long as no request is with
-- the book, and between the death of a process and the start of the next. A change that is refused leaves the book as it was, so
-- nothing happens.
pub record ChangesTerms (old : ServedFarm) (moment : Moment) (change : TermsChange) (new : ServedFarm) : Type 0 where
  pub place : ℕ
  pub answer : ChangesWith (change_answer old.world.book change) (Ok place)
  pub is : new ≡ with_book old (after_change_with old.world.book moment change (Ok place))

-- All that the front held is gone: its jobs, and its ends of connections with what was on its way to it. The book stays: what was told
-- was stored before, and what is opened is what was stored (`Journal`, `book_opening`). A process that dies is each of its fronts,
-- with nothing between.
pub record Dies (site : Site) (old : ServedFarm) (node : NodeNo) (new : ServedFarm) : Type 0 where
  pub is_one : is_front site node ≡ true
  pub at : Stands old node
  pub is : new ≡ with_pool_at (record old { world = after_crash old.world node }) node new_pool

-- ---- one thing after the other

abbrev pub Follows : Site → ServedFarm → Happening → ServedFarm → Type 0
Follows site old (elsewhere step) new = HappensElsewhere site old step new
Follows site old (ignores from node place) new = Ignores site old from node place new
Follows site old (hands_over from node place number) new = HandsOver site old from node place number new
Follows site old (turns_away from node place) new = TurnsAway site old from node place new
Follows site old (takes node number) new = Takes old node number new
Follows site old (charges node number moment written) new = Charges old node number moment written new
Follows site old (finds_busy node number written) new = FindsBusy old node number written new
Follows site old (hands_out node number) new = HandsOut old node number new
Follows site old (goes_unanswered node number) new = GoesUnanswered old node number new
Follows site old (sweeps moment) new = Sweeps old moment new
Follows site old (changes_terms moment change) new = ChangesTerms old moment change new
Follows site old (dies node) new = Dies site old node new

-- the thing may happen
abbrev pub May : Site → ServedFarm → Happening → Type 0
May site old happening = (new : ServedFarm) × Follows site old happening new

-- these things happen, one after the other
abbrev pub Serves : Site → ServedFarm → List Happening → ServedFarm → Type 0
Serves site old [] new = new ≡ old
Serves site old (happening ∷ more) new = (mid : ServedFarm) × Follows site old happening mid × Serves site mid more new

-- From the site's start they can happen.
pub record CanHappen (site : Site) (happenings : List Happening) : Type 0 where
  pub served : ServedFarm
  pub serves : Serves site (new_served site) happenings served
