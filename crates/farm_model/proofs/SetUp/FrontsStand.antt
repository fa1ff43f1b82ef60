-- Each front of the site is there, with as many workers as the site says: before the first step, and after each.
use Rattle.std.proofs.Common.{◌≡◌, ℕ, zero, suc, ◌+◌, Bool, true, false, cond, List, [], ◌∷◌, ◌++◌, length, Option, Some, None, inl, inr, refl, sym, ap, ◌∙◌}
use Rattle.std.proofs.Common.{arith, eq-eqb}
use Rattle.std.specs.Prelude.{◌==◌, ◌||◌, nat_lt, option_map, slice_get, unwrap_or}
use Rattle.std.specs.List.{list_any}
use Rattle.std.proofs.lemmas.Bool.{or_left, or_right}
use Rattle.std.proofs.lemmas.List.{length-replicate, length-set}
use Rattle.std.proofs.lemmas.List.Folds.{list_any-append}
use Rattle.dia_base.specs.declared.node.NodeKind.{NodeKind}
use Rattle.dia_base.specs.declared.node.NodeKind.TheVariants.{Relay, Front, Client}
use Rattle.dia_base.specs.declared.number.ConnId.{ConnId}
use Rattle.dia_base.specs.declared.number.Moment.{Moment}
use Rattle.dia_base.specs.declared.number.NodeNo.{NodeNo}
use Rattle.dia_message.specs.declared.message.Message.{Message as DiaMessage}
use Rattle.cc_book.specs.Taking.{Ledger}
use Rattle.front_core.specs.declared.event.FrontEvent.{FrontEvent}
use Rattle.front_core.specs.declared.event.FrontEvent.TheVariants.{Up, Message, Pick, Charge, Refuse, Emit, Sweep, ChangeTerms, Lost, Restart}
use Rattle.front_core.specs.declared.worker.Job.{Job}
use Rattle.front_core.specs.declared.worker.Worker.{Worker}
use Rattle.front_core.specs.declared.worker.Worker.TheVariants.{Idle, Picked, Done}
use Rattle.front_core.specs.FrontRun.{Turn, after_event, sending_turn, silent_turn}
use Rattle.front_core.specs.FrontState.{FrontState, is_among}
use Rattle.front_core.specs.FrontStep.{after_arrival, after_charge_by, after_emit_by, after_pick_by, after_pick_from, after_refusal_by, sent_at_arrival}
use Rattle.front_core.specs.FrontStep.{with_job}
use Rattle.farm_law.specs.Lists.{Has}
use Rattle.farm_base.specs.declared.site.Node.{Node}
use Rattle.farm_base.specs.declared.site.Site.{Site}
use Rattle.farm_model.specs.declared.state.FrontAt.{FrontAt}
use Rattle.farm_model.specs.FrontTurns.{KeepsFronts, front_after, front_events_at}
use Rattle.farm_base.specs.Nodes.{is_front, kind_in, means_front}
use Rattle.farm_model.specs.Run.{Transition, front_if, fronts_from, start}
use Rattle.farm_model.specs.SetUp.{StandsThere}
use Rattle.farm_model.specs.World.{WorldState, is_front_at, front_at}
use Rattle.farm_model.proofs.Lists.Among.{Has-cons, Has-parts}
use Rattle.farm_model.proofs.Lists.Finding.{any_found, Has-found}

abbrev pub FrontsStand : Site → WorldState → Type 0
FrontsStand site w = (node : NodeNo) → is_front site node ≡ true
    → StandsThere (λ (front : FrontState). front_at node w.fronts ≡ Some front) (λ front. length front.workers ≡ site.workers)

-- ---- at an event a front has as many workers as before

module _ (front : FrontState) (book : Ledger) where
  abbrev AsMany : FrontState → Type 0
  AsMany next = length next.workers ≡ length front.workers

  connected : (conn : ConnId) (b : Bool) → AsMany (cond b front (record front { connections = front.connections ++ conn ∷ [] }))
  connected conn true = refl
  connected conn false = refl

  arrived : (conn : ConnId) (message : DiaMessage) (requests room : Bool) → AsMany (cond requests (cond room (with_job front conn message) front) front)
  arrived conn message true true = refl
  arrived conn message true false = refl
  arrived conn message false room = refl

  came : (turn : Turn) (b : Bool) → AsMany turn.front → AsMany (cond b turn (silent_turn front book)).front
  came turn true same = same
  came turn false same = refl

  picked_from : (worker : ℕ) (jobs : List Job) → AsMany (unwrap_or (after_pick_from front worker jobs) front)
  picked_from worker [] = refl
  picked_from worker (job ∷ jobs) = length-set front.workers worker (Picked job.conn job.request)

  picked : (worker : ℕ) (held : Option Worker) → AsMany (unwrap_or (after_pick_by front worker held) front)
  picked worker None = refl
  picked worker (Some Idle) = picked_from worker front.queue
  picked worker (Some (Picked conn message)) = refl
  picked worker (Some (Done conn answer)) = refl

  charged : (moment : Moment) (worker : ℕ) (held : Option Worker) → AsMany (unwrap_or (after_charge_by front book moment worker held) (front, book)).0
  charged moment worker None = refl
  charged moment worker (Some Idle) = refl
  charged moment worker (Some (Picked conn message)) = length-set front.workers worker _
  charged moment worker (Some (Done conn answer)) = refl

  refused : (worker : ℕ) (held : Option Worker) → AsMany (unwrap_or (after_refusal_by front worker held) front)
  refused worker None = refl
  refused worker (Some Idle) = refl
  refused worker (Some (Picked conn message)) = length-set front.workers worker _
  refused worker (Some (Done conn answer)) = refl

  emitted : (worker : ℕ) (held : Option Worker) → AsMany (unwrap_or (after_emit_by front worker held) (front, [])).0
  emitted worker None = refl
  emitted worker (Some Idle) = refl
  emitted worker (Some (Picked conn message)) = refl
  emitted worker (Some (Done conn answer)) = length-set front.workers worker Idle

  pub as_many : (event : FrontEvent) → AsMany (after_event front book event).front
  as_many (Up conn) = connected conn (is_among front.connections conn)
  as_many (Message conn message) =
      came (sending_turn (after_arrival front conn message, sent_at_arrival front conn message) book) (is_among front.connections conn)
      (arrived conn message message.header.request (nat_lt (length front.queue) front.site.queue))
  as_many (Pick worker) = picked worker (slice_get front.workers worker)
  as_many (Charge worker moment) = charged moment worker (slice_get front.workers worker)
  as_many (Refuse worker) = refused worker (slice_get front.workers worker)
  as_many (Emit worker) = emitted worker (slice_get front.workers worker)
  as_many (Sweep moment) = refl
  as_many (ChangeTerms moment change) = refl
  as_many (Lost conn) = refl
  as_many Restart = length-replicate (length front.workers) Idle

as_many_after : (front : FrontState) (book : Ledger) (events : List FrontEvent) → length (front_after front book events).workers ≡ length front.workers
as_many_after front book [] = refl
as_many_after front book (event ∷ events) = as_many_after (after_event front book event).front book events ∙ as_many front book event

-- ---- before the first step

as_many_if : (site : Site) (place : ℕ) (node : Node) (kind : NodeKind) (at : FrontAt) → Has at (front_if site place node kind)
    → length at.front.workers ≡ site.workers
as_many_if site place node Relay at h = elim h [ ]
as_many_if site place node Client at h = elim h [ ]
as_many_if site place node Front at h = elim (Has-cons h) [
  | inl is ↦ ap (λ (a : FrontAt). length a.front.workers) is ∙ length-replicate site.workers Idle
  | inr none ↦ elim none [ ]
]

as_many_from : (site : Site) (place : ℕ) (nodes : List Node) (at : FrontAt) → Has at (fronts_from site place nodes) → length at.front.workers ≡ site.workers
as_many_from site place [] at h = elim h [ ]
as_many_from site place (node ∷ nodes) at h = elim (Has-parts (front_if site place node node.kind) h) [
  | inl g ↦ as_many_if site place node node.kind at g
  | inr g ↦ as_many_from site (place + 1) nodes at g
]

present_if : (site : Site) (place : ℕ) (node : Node) (kind : NodeKind) (at : NodeNo) → at.0 ≡ place → means_front (Some kind) ≡ true
    → list_any (is_front_at at) (front_if site place node kind) ≡ true
present_if site place node Front at same e = let here_is : (place == at.0) ≡ true = eq-eqb place at.0 (sym same) in ap (λ (b : Bool). b || false) here_is
present_if site place node Relay at same e = absurd cc
present_if site place node Client at same e = absurd cc

present_from : (site : Site) (at : NodeNo) (place : ℕ) (nodes : List Node) (k : ℕ) → at.0 ≡ place + k → means_front (kind_in (slice_get nodes k)) ≡ true
    → list_any (is_front_at at) (fronts_from site place nodes) ≡ true
present_from site at place [] k same e = absurd cc
present_from site at place (node ∷ nodes) zero same e =
    let first_is : at.0 ≡ place = omega arith in
    list_any-append (is_front_at at) (front_if site place node node.kind) (fronts_from site (place + 1) nodes)
    ∙ or_left (list_any (is_front_at at) (front_if site place node node.kind)) _ (present_if site place node node.kind at first_is e)
present_from site at place (node ∷ nodes) (suc k) same e =
    let rest_is : at.0 ≡ place + 1 + k = omega arith in
    list_any-append (is_front_at at) (front_if site place node node.kind) (fronts_from site (place + 1) nodes)
    ∙ or_right (list_any (is_front_at at) (front_if site place node node.kind)) _ (present_from site at (place + 1) nodes k rest_is e)

pub fronts_stand_first : (site : Site) → FrontsStand site (start site)
fronts_stand_first site node is =
    let fronts = fronts_from site 0 site.nodes in
    let same : node.0 ≡ 0 + node.0 = omega arith in
    let found = any_found (is_front_at node) fronts (present_from site node 0 site.nodes node.0 same is) in
    record {
      state =
          found.0.front;
      there = ap (option_map (λ (at : FrontAt). at.front)) found.1;
      as_said = as_many_from site 0 site.nodes found.0
          (Has-found (is_front_at node) fronts found.1);
    }

-- ---- after a step

pub fronts_stand_after : (site : Site) (t : Transition) → FrontsStand site t.before → KeepsFronts site t → FrontsStand site t.after
fronts_stand_after site t stand keeps node is =
    let s = stand node is in
    let events = front_events_at site node t.step t.before in
    record {
      state =
          front_after s.state t.before.book events;
      there = (keeps node s.state s.there).stands;
      as_said = as_many_after s.state t.before.book events
          ∙ s.as_said;
    }
