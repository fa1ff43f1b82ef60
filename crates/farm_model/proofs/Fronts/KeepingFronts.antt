-- What happens to a front at each step of the farm, and that it puts in flight what it sends.
use Rattle.std.proofs.Common.{◌≡◌, ℕ, Bool, true, false, cond, not, List, [], ◌∷◌, ◌++◌, map, Option, Some, None, refl, sym, subst, ap, ◌∙◌, append-nil}
use Rattle.std.specs.Prelude.{◌&&◌, ◌||◌, MatchBool, unwrap_or}
use Rattle.std.specs.List.{find}
use Rattle.std.proofs.lemmas.Bool.{and_parts, both_ways, or_right, or_parts, not-true, false_from_ne_true}
use Rattle.dia_base.specs.declared.number.ConnId.{ConnId}
use Rattle.dia_base.specs.declared.number.Moment.{Moment}
use Rattle.dia_base.specs.declared.number.NodeNo.{NodeNo}
use Rattle.dia_message.specs.declared.message.Message.{Message}
use Rattle.dia_message.specs.Traffic.{Traffic}
use Rattle.cc_book.specs.Taking.{Ledger}
use Rattle.front_core.specs.declared.event.FrontEvent.{FrontEvent}
use Rattle.front_core.specs.FrontRun.{after_event}
use Rattle.front_core.specs.FrontState.{FrontState}
use Rattle.front_core.specs.FrontStep.{after_pick, after_charge, after_refusal, after_emit}
use Rattle.relay_core.specs.declared.run.RelayEvent.{RelayEvent}
use Rattle.relay_core.specs.declared.run.RelayEvent.TheVariants.{Received}
use Rattle.farm_law.specs.Lists.{Has}
use Rattle.farm_model.specs.SoundSite.{IsSound}
use Rattle.farm_base.specs.declared.site.Site.{Site}
use Rattle.farm_model.specs.declared.state.Direction.{Direction}
use Rattle.farm_base.specs.declared.step.Step.{Step}
use Rattle.farm_base.specs.declared.step.Step.TheVariants.{Up, Accept, Opened, Send, Deliver, Lose, Cut, Drop}
use Rattle.farm_base.specs.declared.step.Step.TheVariants.{Restart, Crash, Pick, Charge, Refuse, Emit, Sweep, ChangeTerms}
use Rattle.farm_model.specs.FarmStep.{FarmStep, Outcome, Flight, flight_at, loss_at, Delivers, after_lost_message, can_connect, next_conn, with_connection_at}
use Rattle.farm_model.specs.FarmStep.{with_new_connection, after_accept, after_opened_on, opened_if}
use Rattle.farm_model.specs.FarmStep.{after_up, after_send, after_send_on, with_pick, after_pick_at}
use Rattle.farm_model.specs.FarmStep.{after_refusal_at, with_emit, after_emit_at, with_charge, after_charge_at, can_cut, DropsIt, can_restart}
use Rattle.farm_model.specs.FrontTurns.{as_front_event, front_events_at, front_after, front_outs, KeepsFronts}
use Rattle.farm_model.specs.InFlight.{goes, ends_at, known_after, left_by}
use Rattle.farm_model.specs.Loss.{LossAt, end_with, after_losing_all, CutsBoth, after_crash, peers_of, DropAll}
use Rattle.farm_base.specs.Nodes.{is_node, is_client, is_front, is_relay, is_linked, kind_at}
use Rattle.farm_model.specs.RelayRuns.{event_if, up_events, lost_events, events_at, sent_on}
use Rattle.farm_model.specs.Run.{Transition}
use Rattle.farm_model.specs.World.{Ends, WorldState, is_between, is_heard, is_unheard, is_inward}
use Rattle.farm_model.specs.World.{is_connected, conn_known, with_traffic_from, with_front, front_at}
use Rattle.farm_model.proofs.Lists.Among.{Has-kept, Contains-has, Has-contained}
use Rattle.farm_model.proofs.Wiring.Apart.{is_way, AreApart, goes_once, heard_once}
use Rattle.farm_model.proofs.Relays.EndsInTurn.{Standing, TakesTurns, drop_turns, cut_turns, drop_all_turns, cut_two, opens_next, emptied_leaves}
use Rattle.farm_model.proofs.Relays.EventsAtEnds.{drop_events, cut_events, no_cut_events, no_restart_events, restart_events}
use Rattle.farm_model.proofs.Traffic.FlightLemmas.{directions_after, item_of, flight_leaves, flight_item}
use Rattle.farm_model.proofs.Traffic.TrafficOfSteps.{accept_carries, up_carries, opened_carries}
use Rattle.farm_model.proofs.Fronts.FrontEvents.{FrontTurned, same_front, event_at_front, changed_to, stays_so, Changes, arrival_at_front}
use Rattle.farm_model.proofs.Fronts.FrontEvents.{FrontTurnedOn, front_turned_on, both_at_front, both_on_front}
use Rattle.farm_model.proofs.Fronts.FrontEvents.{losses_at_front, anew, crash_at_front, link_at_front}
use Rattle.farm_model.proofs.Wiring.KindsAgree.{wired_kinds, front_kind}
use Rattle.farm_model.proofs.Lists.Numbering.{same_node, nodes_turned}
use Rattle.farm_model.proofs.Wiring.OneKind.{server_no_client}
use Rattle.farm_model.proofs.Relays.RelayTurns.{learned_by, all_untouched, directions_left}
use Rattle.farm_model.proofs.Relays.RelaysRun.{Leaves, leaves_of, flight_one_out, known_one_out, crash_leaves, comes_up, either_first, opened_event, opened_is}
use Rattle.farm_model.proofs.Relays.SentBehind.{OneOut, one_out, left_one_out, as_it_was, Untouched, others_traffic}
use Rattle.farm_model.proofs.Wiring.Sides.{Side, sides}
use Rattle.farm_model.proofs.Wiring.Wired.{IsWired}

-- ---- a step

-- the front at the node does what happens to it at the step, and what it sends comes behind what the step leaves in flight
pub record FrontStepped (site : Site) (step : Step) (node : NodeNo) (front : FrontState) (old new : WorldState) : Type 0 where
  pub at : front_at node new.fronts ≡ Some (front_after front old.book (front_events_at site node step old))
  pub puts : (direction : Direction) → Has direction old.directions → is_node direction.from node ≡ true
      → ends_at site step old.directions direction ≡ false
      → Has (record direction {
        known = known_after step direction;
        messages = left_by step direction ++ sent_on direction.conn (front_outs front old.book (front_events_at site node step old));
      }) new.directions

-- the front has become by these events what it is where more stands
front_kept : (node : NodeNo) (book : Ledger) (events : List FrontEvent) (old mid new : WorldState)
    → FrontTurned node book events old mid → new.fronts ≡ mid.fronts
    → ((direction : Direction) → Has direction mid.directions → Has direction new.directions) → FrontTurned node book events old new
front_kept node book events old mid new turned same kept front at =
    let r = turned front at in
    record {
      at = ap (front_at node) same ∙ r.at;
      behind = λ direction h from. kept (record direction { messages = direction.messages ++ sent_on direction.conn (front_outs front book events) })
          (r.behind direction h from);
    }

-- what a front does while ends go
front_takes : (site : Site) (k : NodeNo) (book : Ledger) (Stands : Side → Type 0) → TakesTurns site k Stands
    (λ events. FrontTurnedOn Stands k book (map as_front_event events))
front_takes site k book Stands = record {
  same = λ w. front_turned_on Stands k book [] w w (same_front k book w w refl (all_untouched k w.directions w.directions refl));
  more = λ xs ys one two three first second. both_on_front Stands k book xs ys one two three first second;
  goes = λ w node conn away front at. record {
    at = at;
    behind = λ direction h from stands. as_it_was direction (Has-kept (λ d. not (is_inward node conn d)) h (ap not (away direction h stands)));
  };
  learns = λ w next loss losses single kinds learn. front_turned_on Stands k book
      (map as_front_event (learned_by k (loss ∷ []))) w next (losses_at_front k book learn single);
}

module _ (site : Site) (ends : Ends) (checked : IsSound site) (old new : WorldState) (applied : Bool) (losses : List LossAt) (wired : IsWired site ends old)
    (apart : AreApart (sides old.directions)) (k : NodeNo) (front_is : is_front site k ≡ true) where
  abbrev book : Ledger
  book = old.book

  abbrev Stepped : Step → Type 0
  Stepped step = (front : FrontState) → front_at k old.fronts ≡ Some front → FrontStepped site step k front old new

  -- first messages or connections go, and then nodes do something
  stepped : (step : Step) (mid : WorldState) → mid.fronts ≡ old.fronts → Leaves site step old.directions mid.directions → FrontTurned k book
      (front_events_at site k step old) mid new → Stepped step
  stepped step mid same leaves turned front at =
      let r = turned front (ap (front_at k) same ∙ at) in
      record {
        at = r.at;
        puts = λ direction h from stands. r.behind (record direction { known = known_after step direction; messages = left_by step direction })
            (leaves direction h stands) from;
      }

  -- first messages go, and then ends, of which nodes learn
  stepped_on : (Stands : Side → Type 0) (step : Step) (mid : WorldState) → mid.fronts ≡ old.fronts
      → Leaves site step old.directions mid.directions
      → ((direction : Direction) → ends_at site step old.directions direction ≡ false
      → Stands (direction.conn, direction.from, direction.to, known_after step direction))
      → FrontTurnedOn Stands k book (front_events_at site k step old) mid new → Stepped step
  stepped_on Stands step mid same leaves stands_on turned front at =
      let r = turned front (ap (front_at k) same ∙ at) in
      record {
        at = r.at;
        puts = λ direction h from stands. r.behind (record direction { known = known_after step direction; messages = left_by step direction })
            (leaves direction h stands) from (stands_on direction stands);
      }

  nodes_on : (Stands : Side → Type 0) (events : List RelayEvent) (mid : WorldState)
      → FrontTurnedOn Stands k book (map as_front_event events) mid new
      → FrontTurnedOn Stands k book (map as_front_event events ++ []) mid new
  nodes_on Stands events mid turned =
      subst (λ (es : List FrontEvent). FrontTurnedOn Stands k book es mid new) (sym (append-nil (map as_front_event events))) turned

  -- no worker does anything
  by_others : (events : List RelayEvent) (mid : WorldState) → FrontTurned k book (map as_front_event events) mid new → FrontTurned k book
      (map as_front_event events ++ []) mid new
  by_others events mid turned = subst (λ (es : List FrontEvent). FrontTurned k book es mid new) (sym (append-nil (map as_front_event events))) turned

  single : OneOut old.directions
  single = one_out site ends old.ends old.directions apart wired.directions

  unchanged : new ≡ old → FrontTurned k book [] old new
  unchanged same = same_front k book old new (ap (λ (w : WorldState). front_at k w.fronts) same)
      (all_untouched k old.directions new.directions (ap (λ (w : WorldState). w.directions) same))

  -- ---- a worker

  no_worker : (node : NodeNo) (event : FrontEvent) → new ≡ old → Changes k node book event old None new
  no_worker node event same = (
    ap (λ (w : WorldState). w.fronts) same,
    λ far. all_untouched k old.directions new.directions
        (ap (λ (w : WorldState). w.directions) same),
  )

  worker_turns : (node : NodeNo) (event : FrontEvent) → Changes k node book event old (front_at node old.fronts) new → FrontTurned k book
      (cond (is_node node k) (event ∷ []) []) old new
  worker_turns node event changed = event_at_front k node book event old new single (front_at node old.fronts) refl changed

  abbrev picks : ℕ → FrontEvent
  picks worker = Rattle.front_core.specs.declared.event.FrontEvent.TheVariants.Pick worker

  abbrev refuses : ℕ → FrontEvent
  refuses worker = Rattle.front_core.specs.declared.event.FrontEvent.TheVariants.Refuse worker

  -- the front is another one then, or stays as it is
  with_pick_changes : (node : NodeNo) (event : FrontEvent) (front : FrontState) → front_at node old.fronts ≡ Some front → (o : Option FrontState) →
      (after_event front book event).front ≡ unwrap_or o front → (after_event front book event).sent ≡ [] → Outcome (with_pick old node o) applied old new
      → Changes k node book event old (Some front) new
  with_pick_changes node event front at None becomes silent same = stays_so k node book event old new front at same.1 becomes silent
  with_pick_changes node event front at (Some next) becomes silent is =
      changed_to k node book event old new front at
      (ap (λ (w : WorldState). w.fronts) is.1 ∙ ap (λ (f : FrontState). with_front node f old.fronts) (sym becomes))
      (ap (λ (w : WorldState). w.directions) is.1 ∙ ap (with_traffic_from node old.directions) (sym silent))

  pick_changes : (node : NodeNo) (worker : ℕ) (o : Option FrontState) → front_at node old.fronts ≡ o → Outcome (after_pick_at old node worker o) applied old
      new → Changes k node book (picks worker) old o new
  pick_changes node worker None at out = no_worker node (picks worker) out.1
  pick_changes node worker (Some front) at out = with_pick_changes node (picks worker) front at (after_pick front worker) refl refl out

  refusal_changes : (node : NodeNo) (worker : ℕ) (o : Option FrontState) → front_at node old.fronts ≡ o → Outcome (after_refusal_at old node worker o) applied
      old new → Changes k node book (refuses worker) old o new
  refusal_changes node worker None at out = no_worker node (refuses worker) out.1
  refusal_changes node worker (Some front) at out = with_pick_changes node (refuses worker) front at (after_refusal front worker) refl refl out

  abbrev charges : ℕ → Moment → FrontEvent
  charges worker moment = Rattle.front_core.specs.declared.event.FrontEvent.TheVariants.Charge worker moment

  charge_changes : (node : NodeNo) (worker : ℕ) (moment : Moment) (o : Option FrontState) → front_at node old.fronts ≡ o → Outcome
      (after_charge_at old node worker moment o) applied old new → Changes k node book (charges worker moment) old o new
  charge_changes node worker moment None at out = no_worker node (charges worker moment) out.1
  charge_changes node worker moment (Some front) at out = go (after_charge front book moment worker) refl out
    where
      go : (o : Option (FrontState × Ledger)) → after_charge front book moment worker ≡ o → Outcome (with_charge old node o) applied old new → Changes k node
          book (charges worker moment) old (Some front) new
      go None e same = stays_so k node book (charges worker moment) old new front at same.1
          (ap (λ (p : Option (FrontState × Ledger)). (unwrap_or p (front, book)).0) e) refl
      go (Some next) e is =
          changed_to k node book (charges worker moment) old new front at
          (ap (λ (w : WorldState). w.fronts) is.1 ∙ ap (λ (p : Option (FrontState × Ledger)). with_front node (unwrap_or p (front, book)).0 old.fronts)
          (sym e)) (ap (λ (w : WorldState). w.directions) is.1)

  abbrev emits : ℕ → FrontEvent
  emits worker = Rattle.front_core.specs.declared.event.FrontEvent.TheVariants.Emit worker

  emit_changes : (node : NodeNo) (worker : ℕ) (o : Option FrontState) → front_at node old.fronts ≡ o → Outcome (after_emit_at old node worker o) applied old
      new → Changes k node book (emits worker) old o new
  emit_changes node worker None at out = no_worker node (emits worker) out.1
  emit_changes node worker (Some front) at out = go (after_emit front worker) refl out
    where
      go : (o : Option (FrontState × Traffic)) → after_emit front worker ≡ o → Outcome (with_emit old node o) applied old new → Changes k node book
          (emits worker) old (Some front) new
      go None e same =
          stays_so k node book (emits worker) old new front at same.1 (ap (λ (p : Option (FrontState × Traffic)). (unwrap_or p (front, [])).0) e)
          (ap (λ (p : Option (FrontState × Traffic)). (unwrap_or p (front, [])).1) e)
      go (Some next) e is =
          changed_to k node book (emits worker) old new front at
          (ap (λ (w : WorldState). w.fronts) is.1 ∙ ap (λ (p : Option (FrontState × Traffic)). with_front node (unwrap_or p (front, [])).0 old.fronts) (sym e))
          (ap (λ (w : WorldState). w.directions) is.1 ∙ ap (λ (p : Option (FrontState × Traffic)). with_traffic_from node old.directions
          (unwrap_or p (front, [])).1) (sym e))

  -- ---- a client sends

  send_turns : (client to : NodeNo) (message : Message) → Outcome (after_send site old client to message) applied old new → FrontTurned k book [] old new
  send_turns client to message out = go (is_client site client) refl (conn_known old.directions client to) out
    where
      far : is_client site client ≡ true → is_node client k ≡ false
      far client_is =
          false_from_ne_true (is_node client k) (λ is. both_ways (is_client site k)
          (server_no_client (kind_at site k) (or_right (is_relay site k) (is_front site k) front_is))
          (ap (is_client site) (sym (same_node client k is)) ∙ client_is))

      go : (b : Bool) → is_client site client ≡ b → (conn : Option ConnId) → Outcome (cond b (after_send_on old client message conn) None) applied old new →
          FrontTurned k book [] old new
      go true is None same = unchanged same.1
      go true is (Some conn) sent =
          same_front k book old new (ap (λ (w : WorldState). front_at k w.fronts) sent.1)
          (subst (λ (w : WorldState). Untouched k old.directions w.directions) (sym sent.1)
          (others_traffic k client old.directions ((conn, message) ∷ []) (far is)))
      go false is conn same = unchanged same.1

  -- ---- a connection comes up

  -- the one that is connected to learns of it
  accept_turns : (at from : NodeNo) → Outcome (after_accept site old at from) applied old new → FrontTurned k book
      (map as_front_event (events_at site k (Accept at from) old)) old new
  accept_turns at from made = go (can_connect site old from at) made
    where
      conn : ConnId
      conn = next_conn old

      learned : WorldState
      learned = record old { fronts = with_connection_at at conn old.fronts }

      go : (c : Bool) → Outcome (cond c (Some (with_new_connection old from at)) None) applied old new → FrontTurned k book
          (map as_front_event (cond c (event_if (is_node at k) (comes_up from conn)) [])) old new
      go true out = front_kept k book (map as_front_event (event_if (is_node at k) (comes_up from conn))) old learned new
          (link_at_front k at from book conn old learned single refl refl) (ap (λ (w : WorldState). w.fronts) out.1)
          (λ direction h. leaves_of (Accept at from) old new (accept_carries site checked old new applied apart from at made) (λ d. refl) direction h refl)
      go false out = unchanged out.1

  up_turns : (a b : NodeNo) → Outcome (after_up site old a b) applied old new → FrontTurned k book (map as_front_event (events_at site k (Up a b) old)) old new
  up_turns a b made = go (can_connect site old a b) refl made
    where
      conn : ConnId
      conn = next_conn old

      one_knows : WorldState
      one_knows = record old { fronts = with_connection_at b conn old.fronts }

      both_know : WorldState
      both_know = record old { fronts = with_connection_at a conn (with_connection_at b conn old.fronts) }

      both_learn : FrontTurned k book (map as_front_event (event_if (is_node b k) (comes_up a conn) ++ event_if (is_node a k) (comes_up b conn))) old both_know
      both_learn = both_at_front k book (event_if (is_node b k) (comes_up a conn)) (event_if (is_node a k) (comes_up b conn)) old one_knows both_know
          (link_at_front k b a book conn old one_knows single refl refl) (link_at_front k a b book conn one_knows both_know single refl refl)

      -- the next one is the one that is not known yet
      opens : can_connect site old a b ≡ true → Outcome (opened_if a b (Some (with_new_connection old a b))) applied old new → FrontTurned k book
          (map as_front_event (up_events k a b conn)) old new
      opens can out =
          let free = not-true (is_connected old.directions a b) (and_parts (is_linked site a b) (not (is_connected old.directions a b)) can).1 in
          let is_next = subst (λ (o : Option Direction). Outcome (after_opened_on (with_new_connection old a b) a b o) applied old new)
          (opens_next old a b free) out in
          subst (λ (es : List RelayEvent). FrontTurned k book (map as_front_event es) old new) (either_first k a b conn)
          (front_kept k book (map as_front_event (event_if (is_node b k) (comes_up a conn) ++ event_if (is_node a k) (comes_up b conn)))
          old both_know new both_learn (ap (λ (w : WorldState). w.fronts) is_next.1)
          (λ direction h. leaves_of (Up a b) old new (up_carries site checked old new applied apart a b made) (λ d. refl) direction h refl))

      go : (c : Bool) → can_connect site old a b ≡ c
          → Outcome (opened_if a b (cond c (Some (with_new_connection old a b)) None)) applied old new
          → FrontTurned k book (map as_front_event (cond c (up_events k a b conn) [])) old new
      go true can out = opens can out
      go false can out = unchanged out.1

  opened_stepped : (a b : NodeNo) (found : Option Direction) → find (is_unheard b a) old.directions ≡ found
      → Outcome (after_opened_on old a b found) applied old new → Stepped (Opened a b)
  opened_stepped a b found f made =
      stepped (Opened a b) known refl (leaves_of (Opened a b) old new (opened_carries site old new applied apart a b found f made) (λ d. refl))
      (by_others (events_at site k (Opened a b) old) known
      (subst (λ (es : List RelayEvent). FrontTurned k book (map as_front_event es) known new) (sym (opened_is site k old apart a b found f)) (go found f made)))
    where
      known : WorldState
      known = record old { directions = new.directions }

      go : (o : Option Direction) → find (is_unheard b a) old.directions ≡ o → Outcome (after_opened_on old a b o) applied old new → FrontTurned k book
          (map as_front_event (opened_event k a b o)) known new
      go None e out = same_front k book known new (ap (λ (w : WorldState). front_at k w.fronts) out.1) (all_untouched k new.directions new.directions refl)
      go (Some first) e out = link_at_front k a b book first.conn known new
          (subst (λ (w : WorldState). OneOut w.directions) (sym out.1) (known_one_out (is_unheard b a) first old.directions e single))
          (ap (λ (w : WorldState). w.fronts) out.1) refl

  -- ---- a message comes, or is lost

  abbrev without : Option Flight → WorldState
  without flight = record old { directions = directions_after old.directions flight }

  delivered_turns : (from to : NodeNo) (place : ℕ) (flight : Option Flight) → flight_at old.directions from to place ≡ flight → OneOut
      (directions_after old.directions flight) → Delivers site old to flight applied new
      → FrontTurned k book (map as_front_event (events_at site k (Deliver from to place) old)) (without flight) new
  delivered_turns from to place flight flies one made =
      subst (λ (items : Traffic). FrontTurned k book (map as_front_event (cond (is_node to k) (map (λ item. Received item.0 item.1) items) []))
      (without flight) new)
      (sym (flight_item (is_heard from to) old.directions place (heard_once old.directions apart from to) flight flies)) (go flight one made)
    where
      nobody : (b : Bool) → cond b (map (λ (item : ConnId × Message). Received item.0 item.1) []) [] ≡ []
      nobody true = refl
      nobody false = refl

      go : (f : Option Flight) → OneOut (directions_after old.directions f) → Delivers site old to f applied new → FrontTurned k book
          (map as_front_event (cond (is_node to k) (map (λ item. Received item.0 item.1) (item_of f)) [])) (without f) new
      go None left d = subst (λ (es : List RelayEvent). FrontTurned k book (map as_front_event es) old new) (sym (nobody (is_node to k))) (unchanged d.1)
      go (Some f) left d = arrival_at_front site k book (without (Some f)) new to f.conn f.message left front_is (is_client site to) refl d.1

  lost_turns : (flight : Option Flight) → Outcome (after_lost_message old flight) applied old new → FrontTurned k book [] (without flight) new
  lost_turns None out = unchanged out.1
  lost_turns (Some flight) out = same_front k book (without (Some flight)) new (ap (λ (w : WorldState). front_at k w.fronts) out.1)
      (all_untouched k flight.directions new.directions (ap (λ (w : WorldState). w.directions) out.1))

  -- ---- connections end

  well : Standing site ends old
  well = record {
    joined = λ d h. (wired.directions d h).joins;
    single = single;
    kinds = record { fronts = (wired_kinds wired).fronts; relays = (wired_kinds wired).relays };
  }

  drop_stepped : (a b : NodeNo) → DropsIt old a (end_with old.directions a b) applied losses new → Stepped (Drop a b)
  drop_stepped a b made =
      let Stays : Side → Type 0 = λ side. is_way b a side ≡ false in
      stepped_on Stays (Drop a b) old refl (λ direction h stands. h) (λ direction stands. stands)
      (nodes_on Stays (lost_events site (Drop a b) k old.directions) old
      (subst (λ (es : List RelayEvent). FrontTurnedOn Stays k book (map as_front_event es) old new) (sym (drop_events site k old.directions apart a b))
      (drop_turns ends k Stays (λ events. FrontTurnedOn Stays k book (map as_front_event events)) (front_takes site k book Stays) old new a b losses
      (λ side stands. stands) made.1 well).0))

  cut_stepped : (a b : NodeNo) (can : Bool) → can_cut old a b ≡ can → MatchBool can ((applied ≡ true) × CutsBoth old a b losses new)
      ((applied ≡ false) × (losses ≡ []) × (new ≡ old)) → Stepped (Cut a b)
  cut_stepped a b true can made =
      let Stays : Side → Type 0 = λ side. (is_way a b side || is_way b a side) ≡ false in
      let two = cut_two ends old well a b can in
      stepped_on Stays (Cut a b) (after_losing_all old a b) refl (emptied_leaves site old a b can)
      (λ direction stands. ap (λ (c : Bool). c && (goes a b direction || goes b a direction)) (sym can) ∙ stands)
      (nodes_on Stays (lost_events site (Cut a b) k old.directions) (after_losing_all old a b)
      (subst (λ (es : List RelayEvent). FrontTurnedOn Stays k book (map as_front_event es) (after_losing_all old a b) new)
      (sym (cut_events site k old.directions apart a b can two))
      (cut_turns ends k Stays (λ events. FrontTurnedOn Stays k book (map as_front_event events)) (front_takes site k book Stays) old new a b losses two
      (λ side stands. (or_parts (is_way a b side) (is_way b a side) stands).1) (λ side stands. (or_parts (is_way a b side) (is_way b a side) stands).0) made.1
      well)))
  cut_stepped a b false cannot made =
      stepped (Cut a b) old refl (λ direction h stands. h)
      (by_others (lost_events site (Cut a b) k old.directions) old
      (subst (λ (es : List RelayEvent). FrontTurned k book (map as_front_event es) old new) (sym (no_cut_events site k old.directions apart a b cannot))
      (unchanged made.2)))

  crash_single : (node : NodeNo) → OneOut (directions_left old node).directions
  crash_single node = left_one_out (λ d. not (is_node d.to node)) old.directions single

  -- a node that crashes is no client, as the front is none
  not_it : (node : NodeNo) → can_restart site node ≡ false → is_node node k ≡ false
  not_it node cannot = false_from_ne_true (is_node node k) (λ is. both_ways (can_restart site node) cannot
      (or_right (is_relay site node) (is_front site node) (ap (is_front site) (same_node node k is) ∙ front_is)))

  crash_stepped : (node : NodeNo) (can : Bool) → can_restart site node ≡ can → Outcome (cond can (Some (after_crash old node)) None) applied old new → Stepped
      (Crash node)
  crash_stepped node true can made =
      stepped (Crash node) (directions_left old node) refl
      (crash_leaves site (Crash node) node old (λ direction stands. ap (λ (c : Bool). c && is_node direction.to node) (sym can) ∙ stands) (λ direction. refl)
      (λ direction. refl))
      (by_others (event_if (is_node node k) anew) (directions_left old node)
      (subst (λ (w : WorldState). FrontTurned k book (map as_front_event (event_if (is_node node k) anew)) (directions_left old node) w) (sym made.1)
      (crash_at_front k node book old (crash_single node))))
  crash_stepped node false cannot made =
      stepped (Crash node) old refl (λ direction h stands. h)
      (by_others (event_if (is_node node k) anew) old
      (subst (λ (c : Bool). FrontTurned k book (map as_front_event (cond c (anew ∷ []) [])) old new) (sym (not_it node cannot)) (unchanged made.1)))

  abbrev RestartEvents : NodeNo → List RelayEvent
  RestartEvents node = cond (is_node node k) (anew ∷ []) (lost_events site (Restart node) k old.directions)

  restart_stepped : (node : NodeNo) (can : Bool) → can_restart site node ≡ can → MatchBool can
      ((applied ≡ true) × DropAll node (peers_of node old.directions) (after_crash old node) losses new)
      ((applied ≡ false) × (losses ≡ []) × (new ≡ old)) → Stepped (Restart node)
  restart_stepped node true can made =
      let Stays : Side → Type 0 = λ side. is_node side.1 node ≡ false in
      let apart_of = λ (direction : Direction) (stands : ends_at site (Restart node) old.directions direction ≡ false). or_parts (is_node direction.from node)
      (is_node direction.to node) (ap (λ (c : Bool). c && (is_node direction.from node || is_node direction.to node)) (sym can) ∙ stands) in
      let learned : List RelayEvent = lost_events site (Restart node) k old.directions in
      stepped_on Stays (Restart node) (directions_left old node) refl
      (crash_leaves site (Restart node) node old (λ direction stands. (apart_of direction stands).1) (λ direction. refl) (λ direction. refl))
      (λ direction stands. (apart_of direction stands).0)
      (nodes_on Stays (RestartEvents node) (directions_left old node)
      (subst (λ (es : List RelayEvent). FrontTurnedOn Stays k book (map as_front_event es) (directions_left old node) new) (both learned (is_node node k))
      (both_on_front Stays k book (event_if (is_node node k) anew) (cond (is_node node k) [] learned) (directions_left old node) (after_crash old node) new
      (front_turned_on Stays k book (map as_front_event (event_if (is_node node k) anew)) (directions_left old node) (after_crash old node)
      (crash_at_front k node book old (crash_single node)))
      (drop_all_turns ends k Stays (λ events. FrontTurnedOn Stays k book (map as_front_event events)) (front_takes site k book Stays)
      old apart well node new losses
      (cond (is_node node k) [] learned) (λ side stands. stands) (λ is. ap (λ (c : Bool). cond c [] learned) is)
      (λ other. ap (λ (c : Bool). cond c [] learned) other ∙ restart_events site k old.directions apart node can (nodes_turned node k other)) made.1))))
    where
      both : (learned : List RelayEvent) (b : Bool) → event_if b anew ++ cond b [] learned ≡ cond b (anew ∷ []) learned
      both learned true = refl
      both learned false = refl
  restart_stepped node false cannot made =
      stepped (Restart node) old refl (λ direction h stands. h)
      (by_others (RestartEvents node) old
      (subst (λ (c : Bool). FrontTurned k book (map as_front_event (cond c (anew ∷ []) (lost_events site (Restart node) k old.directions))) old new)
      (sym (not_it node cannot))
      (subst (λ (es : List RelayEvent). FrontTurned k book (map as_front_event es) old new) (sym (no_restart_events site k old.directions apart node cannot))
      (unchanged made.2))))

  -- ---- any step

  pub front_steps : (step : Step) → FarmStep site old step applied losses new → Stepped step
  front_steps (Up a b) made = stepped (Up a b) old refl (λ direction h stands. h) (by_others (events_at site k (Up a b) old) old (up_turns a b made.0))
  front_steps (Accept at from) made = stepped (Accept at from) old refl (λ direction h stands. h)
      (by_others (events_at site k (Accept at from) old) old (accept_turns at from made.0))
  front_steps (Opened a b) made = opened_stepped a b (find (is_unheard b a) old.directions) refl made.0
  front_steps (Send client to message) made = stepped (Send client to message) old refl (λ direction h stands. h) (send_turns client to message made.0)
  front_steps (Deliver from to place) made =
      let flight = flight_at old.directions from to place in
      let most = heard_once old.directions apart from to in
      stepped (Deliver from to place) (without flight) refl
      (λ direction h stands. flight_leaves (is_heard from to) old.directions place most flight refl direction h)
      (by_others (events_at site k (Deliver from to place) old) (without flight)
      (delivered_turns from to place flight refl (flight_one_out (is_heard from to) old.directions most single place flight refl) made.0))
  front_steps (Lose from to place) made =
      let flight = loss_at old.directions from to place in
      stepped (Lose from to place) (without flight) refl
      (λ direction h stands. flight_leaves (is_between from to) old.directions place (goes_once old.directions apart from to) flight refl direction h)
      (lost_turns flight made.0)
  front_steps (Cut a b) made = cut_stepped a b (can_cut old a b) refl made
  front_steps (Drop a b) made = drop_stepped a b made
  front_steps (Crash node) made = crash_stepped node (can_restart site node) refl made.0
  front_steps (Restart node) made = restart_stepped node (can_restart site node) refl made
  front_steps (Pick node worker) made = stepped (Pick node worker) old refl (λ direction h stands. h)
      (worker_turns node (picks worker) (pick_changes node worker (front_at node old.fronts) refl made.0))
  front_steps (Charge node worker moment) made = stepped (Charge node worker moment) old refl (λ direction h stands. h)
      (worker_turns node (charges worker moment) (charge_changes node worker moment (front_at node old.fronts) refl made.0))
  front_steps (Refuse node worker) made = stepped (Refuse node worker) old refl (λ direction h stands. h)
      (worker_turns node (refuses worker) (refusal_changes node worker (front_at node old.fronts) refl made.0))
  front_steps (Emit node worker) made = stepped (Emit node worker) old refl (λ direction h stands. h)
      (worker_turns node (emits worker) (emit_changes node worker (front_at node old.fronts) refl made.0))
  front_steps (ChangeTerms moment change) made =
      stepped (ChangeTerms moment change) old refl (λ direction h stands. h)
      (same_front k book old new (ap (λ (w : WorldState). front_at k w.fronts) made.0.1)
      (all_untouched k old.directions new.directions (ap (λ (w : WorldState). w.directions) made.0.1)))
  front_steps (Sweep moment) made =
      stepped (Sweep moment) old refl (λ direction h stands. h)
      (same_front k book old new (ap (λ (w : WorldState). front_at k w.fronts) made.0.1)
      (all_untouched k old.directions new.directions (ap (λ (w : WorldState). w.directions) made.0.1)))

-- what is promised of fronts at the step
pub step_keeps_fronts : {site : Site} {ends : Ends} (t : Transition) → IsSound site → IsWired site ends t.before
    → AreApart (sides t.before.directions) → FarmStep site t.before t.step t.applied t.losses t.after → KeepsFronts site t
step_keeps_fronts {site} {ends} t checked wired apart made node front at =
    let s = front_steps site ends checked t.before t.after t.applied t.losses wired apart node (front_kind (wired_kinds wired) node front at)
    t.step made front at in
    record { stands = s.at; sends = λ direction h from stands. Contains-has (s.puts direction (Has-contained h) from stands) }
