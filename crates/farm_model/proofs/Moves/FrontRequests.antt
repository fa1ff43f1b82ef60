-- Fronts hold requests: what waits there and what a worker has picked has the flag R, at the start of a run and afterwards.
use Rattle.std.proofs.Common.{◌≡◌, ℕ, zero, suc, ◌+◌, Bool, true, false, cond, List, [], ◌∷◌, ◌++◌, length, Option, Some, None, inl, inr, refl, sym, subst, ap}
use Rattle.std.specs.Prelude.{replicate}
use Rattle.dia_base.specs.declared.number.ConnId.{ConnId}
use Rattle.dia_base.specs.declared.number.NodeNo.{NodeNo}
use Rattle.dia_base.specs.declared.node.NodeKind.{NodeKind}
use Rattle.dia_base.specs.declared.node.NodeKind.TheVariants.{Relay, Front, Client}
use Rattle.dia_message.specs.declared.message.Message.{Message}
use Rattle.front_core.specs.declared.worker.Job.{Job}
use Rattle.front_core.specs.declared.worker.Worker.{Worker}
use Rattle.front_core.specs.declared.worker.Worker.TheVariants.{Idle, Picked, Done}
use Rattle.front_core.specs.FrontState.{FrontState, is_among}
use Rattle.front_core.specs.FrontStep.{with_connection, without_connection, after_restart, with_worker, with_job}
use Rattle.relay_core.specs.declared.run.RelayEvent.{RelayEvent}
use Rattle.relay_core.specs.declared.run.RelayEvent.TheVariants.{Lost}
use Rattle.relay_core.specs.RelayState.{RelayState}
use Rattle.farm_law.specs.Lists.{Has}
use Rattle.farm_law.proofs.Lists.{all-end}
use Rattle.farm_base.specs.declared.site.Node.{Node}
use Rattle.farm_base.specs.declared.site.Site.{Site}
use Rattle.farm_model.specs.declared.state.FrontAt.{FrontAt}
use Rattle.farm_model.specs.FarmStep.{with_connection_of, with_connection_at}
use Rattle.farm_model.specs.Loss.{with_restart_of_front, Loss, LearnsLoss, LossAt, LearnLosses, all_know, learns}
use Rattle.farm_model.specs.Run.{fresh_front, front_if, fronts_from}
use Rattle.farm_model.specs.World.{with_front, front_at, WorldState, is_front_at, relay_at}
use Rattle.farm_model.specs.Arrival.{AtRelay}
use Rattle.farm_model.proofs.Lists.Among.{Has-parts, Has-cons, Has-set}
use Rattle.farm_model.proofs.Lists.Replacing.{Has-replaced}
use Rattle.farm_model.proofs.Wiring.WorldLemmas.{the_front, front_among}

-- ---- what holds requests

abbrev pub WorkerHoldsRequest : Worker → Type 0
WorkerHoldsRequest Idle = Unit {0}
WorkerHoldsRequest (Picked conn message) = message.header.request ≡ true
WorkerHoldsRequest (Done conn answer) = Unit {0}

-- what waits and what a worker has picked has the flag R
pub record FrontHoldsRequests (front : FrontState) : Type 0 where
  pub waiting : (job : Job) → Has job front.queue → job.request.header.request ≡ true
  pub working : (worker : Worker) → Has worker front.workers → WorkerHoldsRequest worker

pub record QueuesHoldRequests (fronts : List FrontAt) : Type 0 where
  pub each : (at : FrontAt) → Has at fronts → FrontHoldsRequests at.front

-- ---- one front

idle_holds : (count : ℕ) (worker : Worker) → Has worker (replicate count Idle) → WorkerHoldsRequest worker
idle_holds zero worker h = elim h [ ]
idle_holds (suc count) worker h = elim (Has-cons h) [ inl e ↦ subst WorkerHoldsRequest (sym e) tt | inr g ↦ idle_holds count worker g ]

nothing_waits : (job : Job) → Has job [] → job.request.header.request ≡ true
nothing_waits job h = elim h [ ]

pub with_worker_holds : (front : FrontState) (worker : ℕ) (held : Worker) → WorkerHoldsRequest held → FrontHoldsRequests front → FrontHoldsRequests
    (with_worker front worker held)
with_worker_holds front worker held new holds = record {
  waiting = holds.waiting;
  working = λ w h.
      elim (Has-set held front.workers worker h) [
        | inl is ↦ subst WorkerHoldsRequest (sym is) new
        | inr g ↦ holds.working w g
      ];
}

pub with_job_holds : (front : FrontState) (conn : ConnId) (message : Message) → message.header.request ≡ true → FrontHoldsRequests front → FrontHoldsRequests
    (with_job front conn message)
with_job_holds front conn message request holds = record {
  waiting = all-end (λ (j : Job). j.request.header.request ≡ true) front.queue (record { conn = conn; request = message }) holds.waiting request;
  working = holds.working;
}

connection_holds : (front : FrontState) (conn : ConnId) → FrontHoldsRequests front → FrontHoldsRequests (with_connection front conn)
connection_holds front conn holds = go (is_among front.connections conn)
  where
    go : (b : Bool) → FrontHoldsRequests (cond b front (record front { connections = front.connections ++ conn ∷ [] }))
    go true = holds
    go false = record { waiting = holds.waiting; working = holds.working }

loss_holds : (front : FrontState) (conn : ConnId) → FrontHoldsRequests front → FrontHoldsRequests (without_connection front conn)
loss_holds front conn holds = record { waiting = holds.waiting; working = holds.working }

restart_holds : (front : FrontState) → FrontHoldsRequests (after_restart front)
restart_holds front = record { waiting = nothing_waits; working = idle_holds (length front.workers) }

fresh_holds : (site : Site) (node : Node) → FrontHoldsRequests (fresh_front site node)
fresh_holds site node = record { waiting = nothing_waits; working = idle_holds site.workers }

-- ---- all fronts

pub front_holds : (node : NodeNo) (fronts : List FrontAt) (front : FrontState) → QueuesHoldRequests fronts → front_at node fronts ≡ Some front →
    FrontHoldsRequests front
front_holds node fronts front all looked = all.each (the_front node front) (front_among node fronts front looked)

pub with_front_holds : (node : NodeNo) (fronts : List FrontAt) (changed : FrontState) → FrontHoldsRequests changed → QueuesHoldRequests fronts →
    QueuesHoldRequests (with_front node changed fronts)
with_front_holds node fronts changed holds all = record {
  each = λ at h.
      elim (Has-replaced (is_front_at node) (the_front node changed) fronts h) [
        | inl is ↦ subst (λ (a : FrontAt). FrontHoldsRequests a.front) (sym is) holds
        | inr g ↦ all.each at g
      ];
}

-- a front learns that a connection has come up
pub with_connection_at_holds : (node : NodeNo) (conn : ConnId) (fronts : List FrontAt) → QueuesHoldRequests fronts → QueuesHoldRequests
    (with_connection_at node conn fronts)
with_connection_at_holds node conn fronts all = go (front_at node fronts) refl
  where
    go : (found : Option FrontState) → front_at node fronts ≡ found → QueuesHoldRequests (with_connection_of node conn fronts found)
    go None looked = all
    go (Some front) looked = with_front_holds node fronts (with_connection front conn) (connection_holds front conn (front_holds node fronts front all looked))
        all

-- a front begins anew
pub with_restart_of_front_holds : (node : NodeNo) (fronts : List FrontAt) (found : Option FrontState) → QueuesHoldRequests fronts → QueuesHoldRequests
    (with_restart_of_front node fronts found)
with_restart_of_front_holds node fronts None all = all
with_restart_of_front_holds node fronts (Some front) all = with_front_holds node fronts (after_restart front) (restart_holds front) all

-- ---- fronts learn that a connection has ended

at_relay_fronts : (w : WorldState) (node : NodeNo) (event : RelayEvent) (relay : Option RelayState) (next : WorldState) → AtRelay w node event relay next →
    next.fronts ≡ w.fronts
at_relay_fronts w node event None next same = ap (λ (v : WorldState). v.fronts) same
at_relay_fronts w node event (Some relay) next turn = ap (λ (v : WorldState). v.fronts) turn.next_is

at_relay_holds : (w : WorldState) (node : NodeNo) (event : RelayEvent) (relay : Option RelayState) (next : WorldState) → AtRelay w node event relay next →
    QueuesHoldRequests w.fronts → QueuesHoldRequests next.fronts
at_relay_holds w node event relay next turn all = subst QueuesHoldRequests (sym (at_relay_fronts w node event relay next turn)) all

one_loss_holds : (w : WorldState) (loss : Loss) (front : Option FrontState) (next : WorldState) → front_at loss.node w.fronts ≡ front → LearnsLoss w loss front
    next → QueuesHoldRequests w.fronts → QueuesHoldRequests next.fronts
one_loss_holds w loss (Some front) next looked same all =
    subst (λ (v : WorldState). QueuesHoldRequests v.fronts) (sym same)
    (with_front_holds loss.node w.fronts (without_connection front loss.conn)
    (loss_holds front loss.conn (front_holds loss.node w.fronts front all looked)) all)
one_loss_holds w loss None next looked turn all = at_relay_holds w loss.node (Lost loss.conn) (relay_at loss.node w.relays) next turn all

pub losses_hold : {losses : List Loss} {w last : WorldState} {later : List LossAt} → LearnLosses losses w later last → QueuesHoldRequests w.fronts →
    QueuesHoldRequests last.fronts
losses_hold all_know all = all
losses_hold (learns {loss = loss} {w = w} {next = mid} one more) all = losses_hold more (one_loss_holds w loss (front_at loss.node w.fronts) mid refl one all)

-- ---- at the start

front_if_holds : (site : Site) (place : ℕ) (node : Node) (kind : NodeKind) (at : FrontAt) → Has at (front_if site place node kind) → FrontHoldsRequests at.front
front_if_holds site place node Front at h = elim (Has-cons h)
    [ inl e ↦ subst (λ (a : FrontAt). FrontHoldsRequests a.front) (sym e) (fresh_holds site node) | inr g ↦ elim g [ ] ]
front_if_holds site place node Relay at h = elim h [ ]
front_if_holds site place node Client at h = elim h [ ]

among_holds : (site : Site) (place : ℕ) (nodes : List Node) (at : FrontAt) → Has at (fronts_from site place nodes) → FrontHoldsRequests at.front
among_holds site place [] at h = elim h [ ]
among_holds site place (node ∷ nodes) at h = elim (Has-parts (front_if site place node node.kind) h) [
  | inl g ↦ front_if_holds site place node node.kind at g
  | inr g ↦ among_holds site (place + 1) nodes at g
]

pub fronts_from_hold : (site : Site) (place : ℕ) (nodes : List Node) → QueuesHoldRequests (fronts_from site place nodes)
fronts_from_hold site place nodes = record { each = among_holds site place nodes }
