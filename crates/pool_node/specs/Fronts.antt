-- The fronts of a process, each with its workers, and what they do at each event of a node.
use Rattle.std.specs.Prelude.{◌≡◌, ◌==◌, ◌<◌, ℕ, min, sum_by, Bool, true, false, MatchBool, not, List, [], ◌∷◌, ◌++◌, filter, length, map, position, Option, Some, None, Result, Ok, Err, MatchOption, get_or, slice_get, slice_set, if◌then◌else◌}
use Rattle.dia_base.specs.declared.number.ConnId.{ConnId}
use Rattle.dia_base.specs.declared.number.Moment.{Moment}
use Rattle.dia_base.specs.declared.number.NodeNo.{NodeNo}
use Rattle.dia_message.specs.declared.message.Message.{Message}
use Rattle.dia_message.specs.declared.message.Out.{Out}
use Rattle.dia_message.specs.Traffic.{Traffic}
use Rattle.cc_book.specs.declared.book.BookRefusal.{BookRefusal}
use Rattle.cc_book.specs.declared.book.BookRefusal.TheVariants as refused
use Rattle.cc_shared.specs.History.{SharedLedger}
use Rattle.cc_sweeper.specs.declared.errand.SweepDone.{SweepDone}
use Rattle.cc_sweeper.specs.Sweeps.{IsDoneFor}
use Rattle.farm_base.specs.declared.site.Node.{Node}
use Rattle.farm_base.specs.declared.site.Site.{Site}
use Rattle.front_core.specs.FrontState.{is_among}
use Rattle.farm_node.specs.Events.{NodeEvent}
use Rattle.farm_node.specs.Events.{up, message, leaving, lost, tick, wake}
use Rattle.farm_node.specs.declared.error.NodeError.{NodeError}
use Rattle.farm_node.specs.declared.error.NodeError.TheVariants as fault
use Rattle.farm_node.specs.Nodes.{Becomes, Does, Refuses}
use Rattle.front_pool.specs.declared.job.Finished.{Finished}
use Rattle.farm_base.specs.FrontProfile.{front_profile}
use Rattle.front_pool.specs.declared.site.PoolSite.{PoolSite}
use Rattle.front_pool.specs.Answering.{IsAnsweredBy, too_busy}
use Rattle.front_pool.specs.Keeping.{Collected, FoundNone, PoolState, new_pool, next_job, with_job}
use Rattle.pool_node.specs.declared.figures.BookFigures.{BookFigures}
use Rattle.pool_node.specs.declared.sweeping.NextSweep.{NextSweep}
use Rattle.pool_node.specs.declared.timing.Timing.{Timing}
use Rattle.pool_node.specs.declared.sweeping.NextSweep.TheVariants.{From}
use Rattle.pool_node.specs.Figures.{HasCollected, figures_after}
use Rattle.pool_node.specs.Measure.{IsFew}
use Rattle.pool_node.specs.Sweeping.{asked_at, next_sweep}

abbrev pub name_of : Option Node → List ℕ
name_of None = []
name_of (Some node) = node.name

-- what the answers of a front of a site name, and what it knows and tolerates
abbrev pub site_of : Site → NodeNo → PoolSite
site_of site front = record { name = name_of (slice_get site.nodes front.0); realm = site.realm; profile = front_profile site }

-- A front with its workers: the connections that are up, and the pool, which knows its number.
pub record FrontState : Type 0 where
  pub connections : List ConnId
  pub pool : PoolState

-- a front with so many workers, before anything has happened to it
abbrev pub new_front : NodeNo → ℕ → ℕ → FrontState
new_front node workers room = record { connections = []; pool = new_pool node workers room }

-- All fronts of a process, on one book: at which moment a sweep is under way, if one is, when the next one is due, what the book's
-- figures are as far as answers and sweeps were collected, and whether what is collected is to be told.
pub record FrontsState : Type 0 where
  pub fronts : List FrontState
  pub under_way : Option Moment
  pub next_sweep : NextSweep
  pub figures : BookFigures
  pub is_recorded : Bool

-- fronts of which nothing was collected since the book was opened
abbrev pub with_fronts : Timing → List FrontState → FrontsState
with_fronts timing fronts = record { fronts = fronts; under_way = None; next_sweep = From timing.first_sweep; figures = timing.figures; is_recorded = false }

-- these fronts, each with so many workers, before anything has happened to them
abbrev pub new_fronts : List NodeNo → ℕ → ℕ → List FrontState
new_fronts nodes workers room = map (λ node. new_front node workers room) nodes

-- how many finished jobs these fronts have dropped, since they waited for none of them: at most the greatest number
abbrev pub strangers_of : List FrontState → ℕ
strangers_of fronts = min (sum_by (λ front. front.pool.strangers) fronts) 18446744073709551615

abbrev pub with_connection : FrontState → ConnId → FrontState
with_connection front conn = if is_among front.connections conn then front else record front { connections = front.connections ++ conn ∷ [] }

abbrev pub without_connection : FrontState → ConnId → FrontState
without_connection front conn = record front { connections = filter (λ c. not (c.0 == conn.0)) front.connections }

-- A request is a job more. What is no request is ignored.
abbrev pub with_message : FrontState → ConnId → Message → FrontState
with_message front conn m = if m.header.request then record front { pool = with_job front.pool (next_job front.pool conn m) } else front

-- what a front does with a message: it answers nothing yet, or DIAMETER_TOO_BUSY at once, or has no memory even for that
abbrev pub OnMessage : (NodeNo → PoolSite) → FrontState → ConnId → Message → Result (Option Out) NodeError → FrontState → Type 0
OnMessage sites old conn m (Ok None) new = new ≡ with_message old conn m
OnMessage sites old conn m (Ok (Some out)) new = (m.header.request ≡ true) × (out.items ≡ (conn, too_busy (sites old.pool.front) m) ∷ []) × (new ≡ old)
OnMessage sites old conn m (Err error) new = (m.header.request ≡ true) × (error ≡ fault.OutOfMemory) × (new ≡ old)

-- what goes out for an answer on a connection
abbrev pub sent_on : ConnId → Option Message → Traffic
sent_on conn None = []
sent_on conn (Some answer) = (conn, answer) ∷ []

-- What goes out for a finished job: its answer, on the connection that it came on, if that is up. Where there is no answer,
-- nothing.
abbrev pub sent_for : FrontState → Finished → Traffic
sent_for front finished = if is_among front.connections finished.conn then sent_on finished.conn finished.answer else []

abbrev pub outcome_of : ConnId → Option Message → Result (Unit {0}) NodeError
outcome_of conn None = Err (fault.Unanswered conn)
outcome_of conn (Some answer) = Ok tt

-- What is told of a finished job: that its connection, where it is up, gets no answer, since memory was missing for one.
abbrev pub outcome_for : FrontState → Finished → Result (Unit {0}) NodeError
outcome_for front finished = if is_among front.connections finished.conn then outcome_of finished.conn finished.answer else Ok tt

-- one front of these does something, and no other
pub record AtOne (old : List FrontState) (place : ℕ) (Step : FrontState → FrontState → Type 0) (new : List FrontState) : Type 0 where
  pub below : place < length old
  pub front : FrontState
  pub was : front ≡ get_or old place front
  pub next : FrontState
  pub step : Step front next
  pub is : new ≡ slice_set old place next

-- one front of these does something, and all else is as it was
pub record AtFront (old : FrontsState) (place : ℕ) (Step : FrontState → FrontState → Type 0) (new : FrontsState) : Type 0 where
  pub one : AtOne old.fronts place Step new.fronts
  pub else_is : new ≡ record old { fronts = new.fronts }

-- A finished job is collected at a front: it was handed over there, and is answered in its name.
pub record CollectsOne (sites : NodeNo → PoolSite) (shared : SharedLedger) (finished : Finished) (old new : FrontState) : Type 0 where
  pub collects : Collected old.pool finished new.pool
  pub answered : IsAnsweredBy old.pool.front sites shared finished
  pub connections_are : new.connections ≡ old.connections

-- No finished job that a front waits for is there.
pub record FindsNone (old new : FrontState) : Type 0 where
  pub found : FoundNone old.pool new.pool
  pub connections_are : new.connections ≡ old.connections

-- A finished job is collected at one front. The figures have it.
pub record CollectsAt (sites : NodeNo → PoolSite) (shared : SharedLedger) (place : ℕ) (finished : Finished) (old new : FrontsState) : Type 0 where
  pub one : AtOne old.fronts place (CollectsOne sites shared finished) new.fronts
  pub counted : HasCollected finished.receipt old.figures new.figures
  pub under_way_is : new.under_way ≡ old.under_way
  pub sweep_is : new.next_sweep ≡ old.next_sweep
  pub recorded_is : new.is_recorded ≡ old.is_recorded

-- Finished jobs are collected, one after the other, at any of these fronts, and what goes out for each goes behind what went out
-- for those before it. It ends where memory is missing, for a job more or for the answer of one that is collected, and says so.
pub data Collecting (sites : NodeNo → PoolSite) (shared : SharedLedger) (old : FrontsState) :
    Traffic → Result (Unit {0}) NodeError → FrontsState → Type 0 where
  begins : (sent : Traffic) (new : FrontsState) → sent ≡ [] → new ≡ old → Collecting sites shared old sent (Ok tt) new
  goes_on :
      (sent : Traffic) (mid : FrontsState) (place : ℕ) (finished : Finished) (all : Traffic) (outcome : Result (Unit {0}) NodeError) (new : FrontsState)
      → Collecting sites shared old sent (Ok tt) mid → (at : CollectsAt sites shared place finished mid new)
      → all ≡ sent ++ sent_for at.one.next finished → outcome ≡ outcome_for at.one.next finished → Collecting sites shared old all outcome new
  finds_none :
      (sent : Traffic) (mid : FrontsState) (place : ℕ) (new : FrontsState)
      → Collecting sites shared old sent (Ok tt) mid → AtFront mid place FindsNone new → Collecting sites shared old sent (Ok tt) new
  wants_memory :
      (sent : Traffic) (new : FrontsState) → Collecting sites shared old sent (Ok tt) new → Collecting sites shared old sent (Err fault.OutOfMemory) new

-- what was collected before, and more: wherever the collecting began
abbrev pub CollectsMore : (NodeNo → PoolSite) → SharedLedger → FrontsState → Traffic → Traffic → Result (Unit {0}) NodeError → FrontsState → Type 0
CollectsMore sites shared old sent all outcome new =
    (before : FrontsState) → Collecting sites shared before sent (Ok tt) old → Collecting sites shared before all outcome new

-- what is told where a job more was looked for or its answer put behind what is sent, however many octets that were
abbrev pub told_of_one : {A : Type 0} → Result A NodeError → Result (Unit {0}) NodeError
told_of_one (Ok octets) = Ok tt
told_of_one (Err error) = Err error

-- whether a front is this node
abbrev pub is_node : NodeNo → FrontState → Bool
is_node node front = front.pool.front.0 == node.0

-- whether a connection is up at a front
abbrev pub is_up : ConnId → FrontState → Bool
is_up conn front = is_among front.connections conn

-- how a node tells of what a front has done with a message
abbrev pub IsToldAs : Result (Option Out) NodeError → Traffic → Result (Unit {0}) NodeError → Type 0
IsToldAs (Ok None) sent outcome = (sent ≡ []) × (outcome ≡ Ok tt)
IsToldAs (Ok (Some out)) sent outcome = (sent ≡ out.items) × (outcome ≡ Ok tt)
IsToldAs (Err error) sent outcome = (sent ≡ []) × (outcome ≡ Err error)

-- A message at one front, as a node tells of it.
pub record Handles (sites : NodeNo → PoolSite) (conn : ConnId) (m : Message) (sent : Traffic) (outcome : Result (Unit {0}) NodeError)
    (old new : FrontState) : Type 0 where
  pub answer : Result (Option Out) NodeError
  pub does : OnMessage sites old conn m answer new
  pub tells : IsToldAs answer sent outcome

-- how a node tells of a sweep that was collected
abbrev pub told_of_swept : Result ℕ BookRefusal → Result (Unit {0}) NodeError
told_of_swept (Ok ended) = Ok tt
told_of_swept (Err (refused.Full limit)) = Err (fault.BookFull limit)
told_of_swept (Err refused.OutOfMemory) = Err fault.OutOfMemory

-- the same, where one was
abbrev pub told_of_sweep : Option SweepDone → Result (Unit {0}) NodeError
told_of_sweep None = Ok tt
told_of_sweep (Some done) = told_of_swept done.swept

-- How a node tells of the jobs that were collected and of a sweep: the first fault, if there is one.
abbrev pub told_of_all : Result (Unit {0}) NodeError → Option SweepDone → Result (Unit {0}) NodeError
told_of_all (Err error) swept = Err error
told_of_all (Ok collected) swept = told_of_sweep swept

-- A sweep was collected: none is under way any more, and it says when the next one is due. The figures have it.
pub record HasSwept (done : SweepDone) (old new : FrontsState) : Type 0 where
  pub fronts_are : new.fronts ≡ old.fronts
  pub under_way_is : new.under_way ≡ None
  pub next_is : new.next_sweep ≡ next_sweep done.moment done.swept
  pub figures_are : new.figures ≡ figures_after done.swept old.figures
  pub recorded_is : new.is_recorded ≡ old.is_recorded

-- The sweep that is under way is collected, where it is done: what it came to is what the book answered at the moment that was asked
-- for. Else nothing has changed.
abbrev pub CollectsSweep : SharedLedger → FrontsState → Option SweepDone → FrontsState → Type 0
CollectsSweep shared old None new = new ≡ old
CollectsSweep shared old (Some done) new = IsDoneFor shared old.under_way done × HasSwept done old new

-- A sweep at this moment is asked for, where one is due and none is under way.
abbrev pub after_asking : FrontsState → Moment → FrontsState
after_asking old moment = record old { under_way = asked_at old.next_sweep moment old.under_way }

-- What is finished is collected, a few octets of each front, and the sweep that is done, whatever came of the collecting.
pub record TakesIn (sites : NodeNo → PoolSite) (shared : SharedLedger) (old : FrontsState) (sent : Traffic)
    (outcome : Result (Unit {0}) NodeError) (new : FrontsState) : Type 0 where
  pub collected : Result (Unit {0}) NodeError
  pub behind : FrontsState
  pub collecting : Collecting sites shared old sent collected behind
  pub done : Option SweepDone
  pub swept : CollectsSweep shared behind done new
  pub told : outcome ≡ told_of_all collected done
  pub few : IsFew (length old.fronts) sent

-- Time has passed: what is done is collected, and a sweep is asked for where one is due.
pub record Ticks (sites : NodeNo → PoolSite) (shared : SharedLedger) (moment : Moment) (old : FrontsState) (sent : Traffic)
    (outcome : Result (Unit {0}) NodeError) (new : FrontsState) : Type 0 where
  pub before : FrontsState
  pub takes : TakesIn sites shared old sent outcome before
  pub asks : new ≡ after_asking before moment

-- What happens to a node that is these fronts. Each front has its own pool of workers, and all share one book, which went on from
-- the one that was shared.
abbrev pub OnFrontsEvent : (NodeNo → PoolSite) → SharedLedger → FrontsState → NodeEvent → Traffic → Result (Unit {0}) NodeError → FrontsState → Type 0
OnFrontsEvent sites shared old (up local peer conn) sent outcome new =
    MatchOption (position (is_node local) old.fronts) (Refuses old (fault.UnknownNode local) sent outcome new)
    (λ place. Does old (λ out next. (out ≡ []) × AtFront old place (λ front after. after ≡ with_connection front conn) next) sent outcome new)
OnFrontsEvent sites shared old (message conn m) sent outcome new =
    MatchOption (position (is_up conn) old.fronts) (Refuses old (fault.UnknownConn conn) sent outcome new)
    (λ place. AtFront old place (Handles sites conn m sent outcome) new)
-- They send no request, and answer what came.
OnFrontsEvent sites shared old (leaving conn) sent outcome new = Becomes old sent outcome new
-- What came on it stays, and may still be charged.
OnFrontsEvent sites shared old (lost conn) sent outcome new =
    (sent ≡ []) × (outcome ≡ Ok tt)
    × MatchOption (position (is_up conn) old.fronts) (new ≡ old) (λ place. AtFront old place (λ front after. after ≡ without_connection front conn) new)
OnFrontsEvent sites shared old (tick moment) sent outcome new = Ticks sites shared moment old sent outcome new
OnFrontsEvent sites shared old wake sent outcome new = TakesIn sites shared old sent outcome new
