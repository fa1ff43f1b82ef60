-- What happens to a relay at each step of the farm, and that over a run of the farm it does one thing after another and
-- puts in flight what it sends.
use Rattle.std.proofs.Common.{◌≡◌, ◌≤◌, ℕ, Bool, true, false, cond, List, [], ◌∷◌, ◌++◌, map, length, not, Option}
use Rattle.std.proofs.Common.{Some, None, refl, sym, subst, ap, ◌∙◌, append_assoc, append-nil, arith}
use Rattle.std.specs.Prelude.{MatchBool, IfSome, ◌&&◌, ◌||◌, count_by, filter}
use Rattle.std.specs.List.{find}
use Rattle.std.proofs.lemmas.Bool.{and_parts, both_ways, or_left, or_parts, not-true, false_from_ne_true}
use Rattle.std.proofs.lemmas.Grind.{flat_map-append}
use Rattle.dia_base.specs.declared.number.ConnId.{ConnId}
use Rattle.dia_base.specs.declared.number.Moment.{Moment}
use Rattle.dia_base.specs.declared.number.NodeNo.{NodeNo}
use Rattle.dia_message.specs.declared.message.Message.{Message}
use Rattle.dia_message.specs.declared.message.Out.{Out}
use Rattle.dia_message.specs.Traffic.{Traffic}
use Rattle.cc_book.specs.Taking.{Ledger}
use Rattle.front_core.specs.FrontState.{FrontState}
use Rattle.front_core.specs.FrontStep.{after_pick, after_charge, after_refusal, after_emit}
use Rattle.relay_core.specs.declared.run.RelayEvent.{RelayEvent}
use Rattle.relay_core.specs.declared.run.RelayEvent.TheVariants.{Received}
use Rattle.relay_core.specs.Connecting.{new_relay}
use Rattle.relay_core.specs.RelayRun.{IsRun, not_begun, RelayStep}
use Rattle.relay_core.specs.RelayState.{RelayState}
use Rattle.farm_law.specs.Lists.{Has}
use Rattle.farm_model.specs.SoundSite.{IsSound}
use Rattle.farm_base.specs.Lists.{replace_first}
use Rattle.farm_base.specs.declared.site.Site.{Site}
use Rattle.farm_model.specs.declared.state.Direction.{Direction}
use Rattle.farm_base.specs.declared.step.Step.{Step}
use Rattle.farm_base.specs.declared.step.Step.TheVariants.{Up, Accept, Opened, Send, Deliver, Lose, Cut, Drop}
use Rattle.farm_base.specs.declared.step.Step.TheVariants.{Restart, Crash, Pick, Charge, Refuse, Emit, Sweep, ChangeTerms}
use Rattle.farm_model.specs.FarmStep.{FarmStep, Outcome, Flight, flight_where, flight_at, loss_at, Delivers, after_lost_message, can_connect, next_conn}
use Rattle.farm_model.specs.FarmStep.{with_link_at, with_new_connection, after_accept, after_opened_on}
use Rattle.farm_model.specs.FarmStep.{opened_if, after_up, after_send, after_send_on, with_pick}
use Rattle.farm_model.specs.FarmStep.{after_pick_at, after_refusal_at, with_emit, after_emit_at, with_charge, after_charge_at, can_cut, DropsIt, can_restart}
use Rattle.farm_model.specs.InFlight.{goes, ends_at, known_after, grows_at, left_by}
use Rattle.farm_model.specs.Loss.{LossAt, end_with, after_losing_all, CutsBoth, after_crash, peers_of, DropAll}
use Rattle.farm_base.specs.Nodes.{is_node, is_client, is_front, is_relay, is_linked, kind_at, name_at}
use Rattle.farm_model.specs.RelayRuns.{event_if, up_events, lost_events, events_at, events_in, last_of, sent_on, PutsInFlight, PutsAllInFlight}
use Rattle.farm_model.specs.Run.{Past, Transition, relay_site, start}
use Rattle.farm_model.specs.World.{Ends, WorldState, is_between, is_heard, is_unheard, is_inward, is_outward, is_connected, conn_known, front_at, relay_at}
use Rattle.farm_model.proofs.Lists.Among.{Has-kept, Contains-has, Has-contained}
use Rattle.farm_model.proofs.Lists.Replacing.{count_replaced}
use Rattle.farm_model.proofs.Wiring.Apart.{one_left, none_passes, is_way, AreApart, goes_once, heard_once}
use Rattle.farm_model.proofs.Relays.EndsInTurn.{Standing, TakesTurns, drop_turns, cut_turns, drop_all_turns, cut_two, unheard_once, opens_next, emptied_leaves}
use Rattle.farm_model.proofs.Relays.EventsAtEnds.{drop_events, cut_events, no_cut_events, no_restart_events, restart_events}
use Rattle.farm_model.proofs.Traffic.FlightLemmas.{directions_after, item_of, flight_leaves, flight_sides, flight_item}
use Rattle.farm_model.proofs.Traffic.TrafficOfSteps.{Carries, accept_carries, up_carries, opened_carries}
use Rattle.farm_model.proofs.Wiring.KindsAgree.{KindsAgree, wired_kinds, front_kind}
use Rattle.farm_model.proofs.Wiring.KnowsAtStart.{knows_at_start}
use Rattle.farm_model.proofs.Lists.Numbering.{same_node, nodes_turned}
use Rattle.farm_model.proofs.Wiring.OneKind.{relay_no_client, relay_no_front}
use Rattle.farm_model.proofs.Wiring.RelayPlaces.{relay_there}
use Rattle.farm_model.proofs.Relays.RelayTurns.{Turns, stays, Turns-length, run_on, Turned, same_relay}
use Rattle.farm_model.proofs.Relays.RelayTurns.{turned_more, TurnedOn, turned_on, turned_on_more, all_untouched}
use Rattle.farm_model.proofs.Relays.RelayTurns.{arrival_turns, losses_turn, directions_left, crash_turns, link_turns}
use Rattle.farm_model.proofs.Relays.SentBehind.{OneOut, one_out, one_out_by_sides, left_one_out, as_it_was, Untouched, others_traffic}
use Rattle.farm_model.proofs.Wiring.Sides.{Side, sides}
use Rattle.farm_model.proofs.Runs.Starting.{relays_fresh}
use Rattle.farm_model.proofs.Wiring.Wired.{IsWired}
use Rattle.farm_model.proofs.Wiring.WorldLemmas.{relay_among}

-- ---- a step

-- the relay at the node does what happens to it at the step, and what it sends comes behind what the step leaves in flight
pub record StepReaches (site : Site) (step : Step) (node : NodeNo) (relay : RelayState) (old new : WorldState) : Type 0 where
  pub outs : List Out
  pub last : RelayState
  pub turns : Turns relay (events_at site node step old) outs last
  pub at : relay_at node new.relays ≡ Some last
  pub puts : (direction : Direction) → Has direction old.directions → is_node direction.from node ≡ true → ends_at site step old.directions direction ≡ false
      → Has (record direction { known = known_after step direction; messages = left_by step direction ++ sent_on direction.conn outs }) new.directions

abbrev pub StepTurned : Site → Step → NodeNo → WorldState → WorldState → Type 0
StepTurned site step node old new = (relay : RelayState) → relay_at node old.relays ≡ Some relay → StepReaches site step node relay old new

-- the directions that the step leaves, with what it leaves of them
abbrev pub Leaves : Site → Step → List Direction → List Direction → Type 0
Leaves site step old mid = (direction : Direction) → Has direction old → ends_at site step old direction ≡ false → Has
    (record direction { known = known_after step direction; messages = left_by step direction }) mid

-- so it is where nothing else grows
pub leaves_of : {site : Site} (step : Step) (old new : WorldState) → Carries site step old new → ((direction : Direction) → grows_at step direction ≡ false) →
    Leaves site step old.directions new.directions
leaves_of step old new carries still direction h stands =
    let s = carries.in_flight direction h stands in
    subst (λ (ms : List Message). Has (record direction { known = known_after step direction; messages = ms }) new.directions)
    (ap (λ (ms : List Message). left_by step direction ++ ms) (s.1 (still direction)) ∙ append-nil (left_by step direction)) s.2

-- first messages or connections go, and then nodes do something
step_turned : (site : Site) (step : Step) (node : NodeNo) (old mid new : WorldState) → mid.relays ≡ old.relays → Leaves site step old.directions mid.directions
    → Turned node (events_at site node step old) mid new → StepTurned site step node old new
step_turned site step node old mid new same leaves turned relay at =
    let r = turned relay (ap (relay_at node) same ∙ at) in
    record {
      outs = r.outs;
      last = r.last;
      turns = r.turns;
      at = r.at;
      puts = λ direction h from stands. r.behind
          (record direction { known = known_after step direction; messages = left_by step direction }) (leaves direction h stands) from;
    }

-- first messages go, and then ends, of which nodes learn
step_turned_on : (Stands : Side → Type 0) (site : Site) (step : Step) (node : NodeNo) (old mid new : WorldState)
    → mid.relays ≡ old.relays → Leaves site step old.directions mid.directions
    → ((direction : Direction) → ends_at site step old.directions direction ≡ false
    → Stands (direction.conn, direction.from, direction.to, known_after step direction))
    → TurnedOn Stands node (events_at site node step old) mid new → StepTurned site step node old new
step_turned_on Stands site step node old mid new same leaves stands_on turned relay at =
    let r = turned relay (ap (relay_at node) same ∙ at) in
    record {
      outs = r.outs;
      last = r.last;
      turns = r.turns;
      at = r.at;
      puts = λ direction h from stands. r.behind
          (record direction { known = known_after step direction; messages = left_by step direction }) (leaves direction h stands) from
          (stands_on direction stands);
    }

-- what a relay does while ends go
relay_takes : (site : Site) (k : NodeNo) (Stands : Side → Type 0) → TakesTurns site k Stands (TurnedOn Stands k)
relay_takes site k Stands = record {
  same = λ w. turned_on Stands k w w (same_relay k w w refl (all_untouched k w.directions w.directions refl));
  more = λ xs ys one two three first second. turned_on_more Stands k xs ys one two three first second;
  goes = λ w node conn away relay at. record {
    outs = [];
    last = relay;
    turns = stays;
    at = at;
    behind = λ direction h from stands. as_it_was direction (Has-kept (λ d. not (is_inward node conn d)) h (ap not (away direction h stands)));
  };
  learns = λ w next loss losses single kinds learn. turned_on Stands k w next (losses_turn {site = site} k learn kinds single);
}

-- ---- steps that leave the relays as they are, and what is in flight from one of them

module _ (site : Site) (old : WorldState) (kinds : KindsAgree site old) (k : NodeNo) (relay_is : is_relay site k ≡ true) where
  abbrev Passes : WorldState → Type 0
  Passes new = (new.relays ≡ old.relays) × Untouched k old.directions new.directions

  passes_same : (new : WorldState) → new ≡ old → Passes new
  passes_same new same = (ap (λ (w : WorldState). w.relays) same, all_untouched k old.directions new.directions (ap (λ (w : WorldState). w.directions) same))

  outcome_passes : (o : Option WorldState) (applied : Bool) (new : WorldState) → IfSome o Passes → Outcome o applied old new → Passes new
  outcome_passes None applied new passes made = passes_same new made.1
  outcome_passes (Some next) applied new passes made = subst Passes (sym made.1) passes

  picked_passes : (node : NodeNo) (o : Option FrontState) → IfSome (with_pick old node o) Passes
  picked_passes node None = tt
  picked_passes node (Some front) = (refl, all_untouched k old.directions old.directions refl)

  pick_passes : (node : NodeNo) (worker : ℕ) (o : Option FrontState) → IfSome (after_pick_at old node worker o) Passes
  pick_passes node worker None = tt
  pick_passes node worker (Some front) = picked_passes node (after_pick front worker)

  refuse_passes : (node : NodeNo) (worker : ℕ) (o : Option FrontState) → IfSome (after_refusal_at old node worker o) Passes
  refuse_passes node worker None = tt
  refuse_passes node worker (Some front) = picked_passes node (after_refusal front worker)

  charged_passes : (node : NodeNo) (o : Option (FrontState × Ledger)) → IfSome (with_charge old node o) Passes
  charged_passes node None = tt
  charged_passes node (Some turn) = (refl, all_untouched k old.directions old.directions refl)

  charge_passes : (node : NodeNo) (worker : ℕ) (moment : Moment) (o : Option FrontState) → IfSome (after_charge_at old node worker moment o) Passes
  charge_passes node worker moment None = tt
  charge_passes node worker moment (Some front) = charged_passes node (after_charge front old.book moment worker)

  -- a front sends
  no_front : (node : NodeNo) (front : FrontState) → front_at node old.fronts ≡ Some front → is_node node k ≡ false
  no_front node front at = false_from_ne_true (is_node node k)
      (λ is. both_ways (is_front site k) (relay_no_front (kind_at site k) relay_is)
      (ap (is_front site) (sym (same_node node k is)) ∙ front_kind kinds node front at))

  emitted_passes : (node : NodeNo) → is_node node k ≡ false → (o : Option (FrontState × Traffic)) → IfSome (with_emit old node o) Passes
  emitted_passes node apart None = tt
  emitted_passes node apart (Some turn) = (refl, others_traffic k node old.directions turn.1 apart)

  emit_passes : (node : NodeNo) (worker : ℕ) (o : Option FrontState) → front_at node old.fronts ≡ o → IfSome (after_emit_at old node worker o) Passes
  emit_passes node worker None at = tt
  emit_passes node worker (Some front) at = emitted_passes node (no_front node front at) (after_emit front worker)

  -- a client sends
  send_passes : (client to : NodeNo) (message : Message) → IfSome (after_send site old client to message) Passes
  send_passes client to message = go (is_client site client) refl (conn_known old.directions client to)
    where
      apart : is_client site client ≡ true → is_node client k ≡ false
      apart client_is = false_from_ne_true (is_node client k)
          (λ is. both_ways (is_client site k) (relay_no_client (kind_at site k) relay_is) (ap (is_client site) (sym (same_node client k is)) ∙ client_is))

      go : (b : Bool) → is_client site client ≡ b → (conn : Option ConnId) → IfSome (cond b (after_send_on old client message conn) None) Passes
      go true is None = tt
      go true is (Some conn) = (refl, others_traffic k client old.directions ((conn, message) ∷ []) (apart is))
      go false is conn = tt

-- where a message is taken there is still one direction from each node on a connection
pub flight_one_out : (test : Direction → Bool) (directions : List Direction) → count_by test directions ≤ 1 → OneOut directions → (place : ℕ)
    (flight : Option Flight) → flight_where test directions place ≡ flight → OneOut (directions_after directions flight)
flight_one_out test directions most single place flight flies = one_out_by_sides directions (directions_after directions flight)
    (flight_sides test directions place most flight flies) single

-- and where a direction is known
pub known_one_out : (test : Direction → Bool) (first : Direction) (directions : List Direction) → find test directions ≡ Some first → OneOut directions → OneOut
    (replace_first test (record first { known = true }) directions)
known_one_out test first directions f single node conn =
    let same = count_replaced (is_outward node conn) test first (record first { known = true }) directions f refl in
    let most = single node conn in
    omega (arith, same, most)

-- what a node leaves that forgets everything
pub crash_leaves : (site : Site) (step : Step) (node : NodeNo) (old : WorldState) →
    ((direction : Direction) → ends_at site step old.directions direction ≡ false → is_node direction.to node ≡ false) →
    ((direction : Direction) → left_by step direction ≡ direction.messages) → ((direction : Direction) → known_after step direction ≡ direction.known)
    → Leaves site step old.directions (directions_left old node).directions
crash_leaves site step node old away leaves knows direction h stands =
    subst (λ (d : Direction). Has d (directions_left old node).directions)
    (ap (λ (ms : List Message). record direction { messages = ms }) (sym (leaves direction))
    ∙ ap (λ (c : Bool). record direction { known = c; messages = left_by step direction }) (sym (knows direction)))
    (Has-kept (λ d. not (is_node d.to node)) h (ap not (away direction stands)))

-- the relay has become by these events what it is where more stands
turned_kept : (node : NodeNo) (events : List RelayEvent) (old mid new : WorldState) → Turned node events old mid → new.relays ≡ mid.relays →
    ((direction : Direction) → Has direction mid.directions → Has direction new.directions) → Turned node events old new
turned_kept node events old mid new turned same kept relay at =
    let r = turned relay at in
    record {
      outs = r.outs;
      last = r.last;
      turns = r.turns;
      at = ap (relay_at node) same ∙ r.at;
      behind = λ direction h from. kept (record direction { messages = direction.messages ++ sent_on direction.conn r.outs }) (r.behind direction h from);
    }

abbrev pub comes_up : NodeNo → ConnId → RelayEvent
comes_up peer conn = Rattle.relay_core.specs.declared.run.RelayEvent.TheVariants.Up peer conn

-- whichever of the two learns of it first
pub either_first : (k a b : NodeNo) (conn : ConnId)
    → event_if (is_node b k) (comes_up a conn) ++ event_if (is_node a k) (comes_up b conn) ≡ up_events k a b conn
either_first k a b conn = go (is_node a k) refl (is_node b k) refl
  where
    go : (x : Bool) → is_node a k ≡ x → (y : Bool) → is_node b k ≡ y → event_if y (comes_up a conn) ++ event_if x (comes_up b conn) ≡ event_if x
        (comes_up b conn) ++ event_if y (comes_up a conn)
    go true e true f =
        let same : a ≡ b = same_node a k e ∙ sym (same_node b k f) in
        ap (λ (n : NodeNo). comes_up n conn ∷ comes_up b conn ∷ []) same ∙ ap (λ (n : NodeNo). comes_up b conn ∷ comes_up n conn ∷ []) (sym same)
    go true e false f = refl
    go false e true f = refl
    go false e false f = refl

abbrev pub opened_event : NodeNo → NodeNo → NodeNo → Option Direction → List RelayEvent
opened_event k a b None = []
opened_event k a b (Some direction) = event_if (is_node a k) (comes_up b direction.conn)

-- the node that has opened a connection learns that it is made, if there is one
pub opened_is : (site : Site) (k : NodeNo) (old : WorldState) → AreApart (sides old.directions) → (a b : NodeNo) (found : Option Direction)
    → find (is_unheard b a) old.directions ≡ found → events_at site k (Opened a b) old ≡ opened_event k a b found
opened_is site k old apart a b found f = go found f
  where
    nobody : (c : Bool) → cond c (map (λ (d : Direction). comes_up b d.conn) []) [] ≡ []
    nobody true = refl
    nobody false = refl

    go : (o : Option Direction) → find (is_unheard b a) old.directions ≡ o → cond (is_node a k) (map (λ (d : Direction). comes_up b d.conn)
        (filter (is_unheard b a) old.directions)) [] ≡ opened_event k a b o
    go None e = ap (λ (ds : List Direction). cond (is_node a k) (map (λ (d : Direction). comes_up b d.conn) ds) [])
        (none_passes (is_unheard b a) old.directions e)
        ∙ nobody (is_node a k)
    go (Some first) e = ap (λ (ds : List Direction). cond (is_node a k) (map (λ (d : Direction). comes_up b d.conn) ds) [])
        (one_left (is_unheard b a) first old.directions (unheard_once old.directions apart b a) e)

-- ---- any step

module _ (site : Site) (ends : Ends) (checked : IsSound site) (old new : WorldState) (applied : Bool) (losses : List LossAt) (wired : IsWired site ends old)
    (apart : AreApart (sides old.directions)) (k : NodeNo) (relay_is : is_relay site k ≡ true) where
  single : OneOut old.directions
  single = one_out site ends old.ends old.directions apart wired.directions

  kinds : KindsAgree site old
  kinds = wired_kinds wired

  unchanged_turns : new ≡ old → Turned k [] old new
  unchanged_turns same = let passes = passes_same site old kinds k relay_is new same in same_relay k old new (ap (relay_at k) passes.0) passes.1

  quiet_turns : (o : Option WorldState) → IfSome o (Passes site old kinds k relay_is) → Outcome o applied old new → Turned k [] old new
  quiet_turns o quiet made = let passes = outcome_passes site old kinds k relay_is o applied new quiet made in same_relay k old new (ap (relay_at k) passes.0)
      passes.1

  -- the one that is connected to learns of it
  accept_turns : (at from : NodeNo) → Outcome (after_accept site old at from) applied old new → Turned k (events_at site k (Accept at from) old) old new
  accept_turns at from made = go (can_connect site old from at) made
    where
      conn : ConnId
      conn = next_conn old

      learned : WorldState
      learned = record old { relays = with_link_at at from conn old.relays }

      go : (c : Bool) → Outcome (cond c (Some (with_new_connection old from at)) None) applied old new → Turned k
          (cond c (event_if (is_node at k) (comes_up from conn)) []) old new
      go true out = turned_kept k (event_if (is_node at k) (comes_up from conn)) old learned new (link_turns k at from conn old learned single refl refl)
          (ap (λ (w : WorldState). w.relays) out.1)
          (λ direction h. leaves_of (Accept at from) old new (accept_carries site checked old new applied apart from at made) (λ d. refl) direction h refl)
      go false out = unchanged_turns out.1

  up_turns : (a b : NodeNo) → Outcome (after_up site old a b) applied old new → Turned k (events_at site k (Up a b) old) old new
  up_turns a b made = go (can_connect site old a b) refl made
    where
      conn : ConnId
      conn = next_conn old

      one_knows : WorldState
      one_knows = record old { relays = with_link_at b a conn old.relays }

      both_know : WorldState
      both_know = record old { relays = with_link_at a b conn (with_link_at b a conn old.relays) }

      both_learn : Turned k (event_if (is_node b k) (comes_up a conn) ++ event_if (is_node a k) (comes_up b conn)) old both_know
      both_learn = turned_more k old one_knows both_know (link_turns k b a conn old one_knows single refl refl)
          (link_turns k a b conn one_knows both_know single refl refl)

      -- the next one is the one that is not known yet
      opens : can_connect site old a b ≡ true → Outcome (opened_if a b (Some (with_new_connection old a b))) applied old new → Turned k (up_events k a b conn)
          old new
      opens can out =
          let free = not-true (is_connected old.directions a b) (and_parts (is_linked site a b) (not (is_connected old.directions a b)) can).1 in
          let is_next = subst (λ (o : Option Direction). Outcome (after_opened_on (with_new_connection old a b) a b o) applied old new)
          (opens_next old a b free) out in
          subst (λ (es : List RelayEvent). Turned k es old new) (either_first k a b conn)
          (turned_kept k (event_if (is_node b k) (comes_up a conn) ++ event_if (is_node a k) (comes_up b conn)) old both_know new both_learn
          (ap (λ (w : WorldState). w.relays) is_next.1)
          (λ direction h. leaves_of (Up a b) old new (up_carries site checked old new applied apart a b made) (λ d. refl) direction h refl))

      go : (c : Bool) → can_connect site old a b ≡ c → Outcome (opened_if a b (cond c (Some (with_new_connection old a b)) None)) applied old new → Turned k
          (cond c (up_events k a b conn) []) old new
      go true can out = opens can out
      go false can out = unchanged_turns out.1

  opened_turned : (a b : NodeNo) (found : Option Direction) → find (is_unheard b a) old.directions ≡ found
      → Outcome (after_opened_on old a b found) applied old new → StepTurned site (Opened a b) k old new
  opened_turned a b found f made =
      step_turned site (Opened a b) k old known new refl
      (leaves_of (Opened a b) old new (opened_carries site old new applied apart a b found f made) (λ d. refl))
      (subst (λ (es : List RelayEvent). Turned k es known new) (sym (opened_is site k old apart a b found f)) (go found f made))
    where
      known : WorldState
      known = record old { directions = new.directions }

      go : (o : Option Direction) → find (is_unheard b a) old.directions ≡ o → Outcome (after_opened_on old a b o) applied old new
          → Turned k (opened_event k a b o) known new
      go None e out = same_relay k known new (ap (λ (w : WorldState). relay_at k w.relays) out.1) (all_untouched k new.directions new.directions refl)
      go (Some first) e out = link_turns k a b first.conn known new
          (subst (λ (w : WorldState). OneOut w.directions) (sym out.1) (known_one_out (is_unheard b a) first old.directions e single))
          (ap (λ (w : WorldState). w.relays) out.1) refl

  -- the farm without the message that is taken
  abbrev without : Option Flight → WorldState
  without flight = record old { directions = directions_after old.directions flight }

  delivered_turns : (from to : NodeNo) (place : ℕ) (flight : Option Flight) → flight_at old.directions from to place ≡ flight → Delivers site old to flight
      applied new → Turned k (events_at site k (Deliver from to place) old) (without flight) new
  delivered_turns from to place flight flies made =
      subst (λ (items : Traffic). Turned k (cond (is_node to k) (map (λ item. Received item.0 item.1) items) []) (without flight) new)
      (sym (flight_item (is_heard from to) old.directions place (heard_once old.directions apart from to) flight flies))
      (go flight (flight_one_out (is_heard from to) old.directions (heard_once old.directions apart from to) single place flight flies) made)
    where
      nobody : (b : Bool) → cond b (map (λ (item : ConnId × Message). Received item.0 item.1) []) [] ≡ []
      nobody true = refl
      nobody false = refl

      go : (f : Option Flight) → OneOut (directions_after old.directions f) → Delivers site old to f applied new → Turned k
          (cond (is_node to k) (map (λ item. Received item.0 item.1) (item_of f)) []) (without f) new
      go None one d = subst (λ (es : List RelayEvent). Turned k es old new) (sym (nobody (is_node to k))) (unchanged_turns d.1)
      go (Some f) one d = arrival_turns {site = site} k (without (Some f)) new to f.conn f.message (record { fronts = kinds.fronts; relays = kinds.relays })
          one relay_is (is_client site to) refl d.1

  lost_turns : (flight : Option Flight) → Outcome (after_lost_message old flight) applied old new → Turned k [] (without flight) new
  lost_turns None out = unchanged_turns out.1
  lost_turns (Some flight) out = same_relay k (without (Some flight)) new (ap (λ (w : WorldState). relay_at k w.relays) out.1)
      (all_untouched k flight.directions new.directions (ap (λ (w : WorldState). w.directions) out.1))

  -- ---- connections end

  well : Standing site ends old
  well = record { joined = λ d h. (wired.directions d h).joins; single = single; kinds = record { fronts = kinds.fronts; relays = kinds.relays } }

  drop_turned : (a b : NodeNo) → DropsIt old a (end_with old.directions a b) applied losses new → StepTurned site (Drop a b) k old new
  drop_turned a b made =
      let Stays : Side → Type 0 = λ side. is_way b a side ≡ false in
      step_turned_on Stays site (Drop a b) k old old new refl (λ direction h stands. h) (λ direction stands. stands)
      (subst (λ (es : List RelayEvent). TurnedOn Stays k es old new) (sym (drop_events site k old.directions apart a b))
      (drop_turns ends k Stays (TurnedOn Stays k) (relay_takes site k Stays) old new a b losses (λ side stands. stands) made.1 well).0)

  cut_turned : (a b : NodeNo) (can : Bool) → can_cut old a b ≡ can → MatchBool can ((applied ≡ true) × CutsBoth old a b losses new)
      ((applied ≡ false) × (losses ≡ []) × (new ≡ old)) → StepTurned site (Cut a b) k old new
  cut_turned a b true can made =
      let Stays : Side → Type 0 = λ side. (is_way a b side || is_way b a side) ≡ false in
      let two = cut_two ends old well a b can in
      step_turned_on Stays site (Cut a b) k old (after_losing_all old a b) new refl (emptied_leaves site old a b can)
      (λ direction stands. ap (λ (c : Bool). c && (goes a b direction || goes b a direction)) (sym can) ∙ stands)
      (subst (λ (es : List RelayEvent). TurnedOn Stays k es (after_losing_all old a b) new) (sym (cut_events site k old.directions apart a b can two))
      (cut_turns ends k Stays (TurnedOn Stays k) (relay_takes site k Stays) old new a b losses two
      (λ side stands. (or_parts (is_way a b side) (is_way b a side) stands).1)
      (λ side stands. (or_parts (is_way a b side) (is_way b a side) stands).0) made.1 well))
  cut_turned a b false cannot made =
      step_turned site (Cut a b) k old old new refl (λ direction h stands. h)
      (subst (λ (es : List RelayEvent). Turned k es old new) (sym (no_cut_events site k old.directions apart a b cannot)) (unchanged_turns made.2))

  abbrev anew : RelayEvent
  anew = Rattle.relay_core.specs.declared.run.RelayEvent.TheVariants.Restart

  crash_single : (node : NodeNo) → OneOut (directions_left old node).directions
  crash_single node = left_one_out (λ d. not (is_node d.to node)) old.directions single

  -- a node that crashes is no client, as the relay is none
  not_it : (node : NodeNo) → can_restart site node ≡ false → is_node node k ≡ false
  not_it node cannot = false_from_ne_true (is_node node k) (λ is. both_ways (can_restart site node) cannot
      (or_left (is_relay site node) (is_front site node) (ap (is_relay site) (same_node node k is) ∙ relay_is)))

  crash_turned : (node : NodeNo) (can : Bool) → can_restart site node ≡ can
      → Outcome (cond can (Some (after_crash old node)) None) applied old new → StepTurned site (Crash node) k old new
  crash_turned node true can made =
      step_turned site (Crash node) k old (directions_left old node) new refl
      (crash_leaves site (Crash node) node old (λ direction stands. ap (λ (c : Bool). c && is_node direction.to node) (sym can) ∙ stands) (λ direction. refl)
      (λ direction. refl))
      (subst (λ (w : WorldState). Turned k (event_if (is_node node k) anew) (directions_left old node) w) (sym made.1)
      (crash_turns k node old (crash_single node)))
  crash_turned node false cannot made =
      step_turned site (Crash node) k old old new refl (λ direction h stands. h)
      (subst (λ (c : Bool). Turned k (cond c (anew ∷ []) []) old new) (sym (not_it node cannot)) (unchanged_turns made.1))

  restart_turned : (node : NodeNo) (can : Bool) → can_restart site node ≡ can → MatchBool can
      ((applied ≡ true) × DropAll node (peers_of node old.directions) (after_crash old node) losses new)
      ((applied ≡ false) × (losses ≡ []) × (new ≡ old)) → StepTurned site (Restart node) k old new
  restart_turned node true can made =
      let Stays : Side → Type 0 = λ side. is_node side.1 node ≡ false in
      let apart_of = λ (direction : Direction) (stands : ends_at site (Restart node) old.directions direction ≡ false). or_parts (is_node direction.from node)
      (is_node direction.to node) (ap (λ (c : Bool). c && (is_node direction.from node || is_node direction.to node)) (sym can) ∙ stands) in
      let learned : List RelayEvent = lost_events site (Restart node) k old.directions in
      step_turned_on Stays site (Restart node) k old (directions_left old node) new refl
      (crash_leaves site (Restart node) node old (λ direction stands. (apart_of direction stands).1) (λ direction. refl) (λ direction. refl))
      (λ direction stands. (apart_of direction stands).0)
      (subst (λ (es : List RelayEvent). TurnedOn Stays k es (directions_left old node) new) (both learned (is_node node k))
      (turned_on_more Stays k (event_if (is_node node k) anew) (cond (is_node node k) [] learned) (directions_left old node) (after_crash old node) new
      (turned_on Stays k (directions_left old node) (after_crash old node) (crash_turns k node old (crash_single node)))
      (drop_all_turns ends k Stays (TurnedOn Stays k) (relay_takes site k Stays) old apart well node new losses (cond (is_node node k) [] learned)
      (λ side stands. stands) (λ is. ap (λ (c : Bool). cond c [] learned) is)
      (λ other. ap (λ (c : Bool). cond c [] learned) other ∙ restart_events site k old.directions apart node can (nodes_turned node k other)) made.1)))
    where
      both : (learned : List RelayEvent) (b : Bool) → event_if b anew ++ cond b [] learned ≡ cond b (anew ∷ []) learned
      both learned true = refl
      both learned false = refl
  restart_turned node false cannot made =
      step_turned site (Restart node) k old old new refl (λ direction h stands. h)
      (subst (λ (c : Bool). Turned k (cond c (anew ∷ []) (lost_events site (Restart node) k old.directions)) old new) (sym (not_it node cannot))
      (subst (λ (es : List RelayEvent). Turned k es old new) (sym (no_restart_events site k old.directions apart node cannot)) (unchanged_turns made.2)))

  -- what happens to the relay at the step, it does
  pub step_turns : (step : Step) → FarmStep site old step applied losses new → StepTurned site step k old new
  step_turns (Up a b) made = step_turned site (Up a b) k old old new refl (λ direction h stands. h) (up_turns a b made.0)
  step_turns (Accept at from) made = step_turned site (Accept at from) k old old new refl (λ direction h stands. h) (accept_turns at from made.0)
  step_turns (Opened a b) made = opened_turned a b (find (is_unheard b a) old.directions) refl made.0
  step_turns (Send client to message) made = step_turned site (Send client to message) k old old new refl (λ direction h stands. h)
      (quiet_turns (after_send site old client to message) (send_passes site old kinds k relay_is client to message) made.0)
  step_turns (Deliver from to place) made =
      let flight = flight_at old.directions from to place in
      step_turned site (Deliver from to place) k old (without flight) new refl
      (λ direction h stands. flight_leaves (is_heard from to) old.directions place (heard_once old.directions apart from to) flight refl direction h)
      (delivered_turns from to place flight refl made.0)
  step_turns (Lose from to place) made =
      let flight = loss_at old.directions from to place in
      step_turned site (Lose from to place) k old (without flight) new refl
      (λ direction h stands. flight_leaves (is_between from to) old.directions place (goes_once old.directions apart from to) flight refl direction h)
      (lost_turns flight made.0)
  step_turns (Cut a b) made = cut_turned a b (can_cut old a b) refl made
  step_turns (Drop a b) made = drop_turned a b made
  step_turns (Crash node) made = crash_turned node (can_restart site node) refl made.0
  step_turns (Restart node) made = restart_turned node (can_restart site node) refl made
  step_turns (Pick node worker) made =
      step_turned site (Pick node worker) k old old new refl (λ direction h stands. h)
      (quiet_turns (after_pick_at old node worker (front_at node old.fronts))
      (pick_passes site old kinds k relay_is node worker (front_at node old.fronts)) made.0)
  step_turns (Charge node worker moment) made =
      step_turned site (Charge node worker moment) k old old new refl (λ direction h stands. h)
      (quiet_turns (after_charge_at old node worker moment (front_at node old.fronts))
      (charge_passes site old kinds k relay_is node worker moment (front_at node old.fronts)) made.0)
  step_turns (Refuse node worker) made =
      step_turned site (Refuse node worker) k old old new refl (λ direction h stands. h)
      (quiet_turns (after_refusal_at old node worker (front_at node old.fronts))
      (refuse_passes site old kinds k relay_is node worker (front_at node old.fronts)) made.0)
  step_turns (Emit node worker) made =
      step_turned site (Emit node worker) k old old new refl (λ direction h stands. h)
      (quiet_turns (after_emit_at old node worker (front_at node old.fronts))
      (emit_passes site old kinds k relay_is node worker (front_at node old.fronts) refl) made.0)
  step_turns (ChangeTerms moment change) made =
      step_turned site (ChangeTerms moment change) k old old new refl (λ direction h stands. h)
      (same_relay k old new (ap (λ (w : WorldState). relay_at k w.relays) made.0.1)
      (all_untouched k old.directions new.directions (ap (λ (w : WorldState). w.directions) made.0.1)))
  step_turns (Sweep moment) made =
      step_turned site (Sweep moment) k old old new refl (λ direction h stands. h)
      (same_relay k old new (ap (λ (w : WorldState). relay_at k w.relays) made.0.1)
      (all_untouched k old.directions new.directions (ap (λ (w : WorldState). w.directions) made.0.1)))

-- ---- a run

-- By what happened to it in these transitions the relay has become what it is in the farm, and what it sent then is what
-- was put in flight from it.
pub record HasRun (site : Site) (node : NodeNo) (past : Past) (w : WorldState) : Type 0 where
  pub outs : List Out
  pub steps : List RelayStep
  pub last : RelayState
  pub run : IsRun (new_relay (relay_site site node (name_at site node))) (events_in site node past) outs steps last
  pub at : relay_at node w.relays ≡ Some last
  pub sends : PutsAllInFlight site node past outs

puts_more : (site : Site) (node : NodeNo) (past : Past) (t : Transition) (outs now : List Out) → PutsAllInFlight site node past outs → length now ≡ length
    (events_at site node t.step t.before) → PutsInFlight site node t now → PutsAllInFlight site node (past ++ t ∷ []) (outs ++ now)
puts_more site node [] t outs now none len puts = (now, [], ap (λ (os : List Out). os ++ now) none ∙ sym (append-nil now), len, puts, refl)
puts_more site node (first ∷ past) t outs now all len puts = (
  all.0,
  all.1 ++ now,
  ap (λ (os : List Out). os ++ now) all.2 ∙ append_assoc all.0 all.1 now,
  all.3,
  all.4,
  puts_more site node past t all.1 now all.5 len puts,
)

events_in-push : (site : Site) (node : NodeNo) (past : Past) (t : Transition) → events_in site node (past ++ t ∷ []) ≡ events_in site node past ++ events_at
    site node t.step t.before
events_in-push site node past t =
    flat_map-append (λ (passed : Transition). events_at site node passed.step passed.before) past (t ∷ []) ∙ ap
    (λ (es : List RelayEvent). events_in site node past ++ es) (append-nil (events_at site node t.step t.before))

pub last_of-push : (w : WorldState) (past : Past) (t : Transition) → last_of w (past ++ t ∷ []) ≡ t.after
last_of-push w [] t = refl
last_of-push w (first ∷ past) t = last_of-push first.after past t

pub relay_runs_on : {site : Site} {ends : Ends} (past : Past) (t : Transition) → IsSound site → IsWired site ends t.before
    → AreApart (sides t.before.directions) → FarmStep site t.before t.step t.applied t.losses t.after
    → (node : NodeNo) → is_relay site node ≡ true → HasRun site node past t.before
    → HasRun site node (past ++ t ∷ []) t.after
relay_runs_on {site} {ends} past t checked wired apart made node relay_is has =
    let reached = step_turns site ends checked t.before t.after t.applied t.losses wired apart node relay_is t.step made has.last has.at in
    let all = run_on has.run reached.turns in
    record {
      outs = has.outs ++ reached.outs;
      steps = all.0;
      last = reached.last;
      run = subst (λ (es : List RelayEvent). IsRun (new_relay (relay_site site node (name_at site node))) es (has.outs ++ reached.outs) all.0 reached.last)
          (sym (events_in-push site node past t)) all.1;
      at = reached.at;
      sends = puts_more site node past t has.outs reached.outs has.sends (Turns-length reached.turns)
          (λ direction h from stands. Contains-has (reached.puts direction (Has-contained h) from stands));
    }

-- before the first step the relay is new
pub relay_begins : (site : Site) (node : NodeNo) → is_relay site node ≡ true → HasRun site node [] (start site)
relay_begins site node relay_is =
    let found = relay_there node (start site).relays ((knows_at_start site).present node relay_is) in
    let fresh = relays_fresh site [] site.nodes refl (record { node = node; relay = found.0 }) (relay_among node (start site).relays found.0 found.1) in
    record {
      outs = [];
      steps = [];
      last = new_relay (relay_site site node (name_at site node));
      run = not_begun;
      at = found.1 ∙ ap
          (λ (r : RelayState). Some r) fresh;
      sends = refl;
    }
