-- Each step of the farm leaves relays that know their peers.
use Rattle.std.proofs.Common.{◌≡◌, ℕ, Bool, true, false, cond, not, List, [], ◌∷◌, map, Option, Some, None, refl, sym, subst, ap, ◌∙◌}
use Rattle.std.specs.Prelude.{◌||◌, MatchBool, IfSome}
use Rattle.std.specs.List.{find}
use Rattle.dia_base.specs.declared.number.ConnId.{ConnId}
use Rattle.dia_base.specs.declared.number.Moment.{Moment}
use Rattle.dia_base.specs.declared.number.NodeNo.{NodeNo}
use Rattle.dia_message.specs.declared.message.Message.{Message}
use Rattle.dia_message.specs.Traffic.{Traffic}
use Rattle.cc_book.specs.Taking.{Ledger}
use Rattle.front_core.specs.FrontState.{FrontState, is_among}
use Rattle.front_core.specs.FrontStep.{after_pick, after_charge, after_refusal, after_emit, sent_at_arrival}
use Rattle.relay_core.specs.declared.node.RelayNode.{RelayNode}
use Rattle.relay_core.specs.declared.run.RelayEvent.TheVariants.{Received}
use Rattle.relay_core.specs.RelayState.{RelayState}
use Rattle.farm_base.specs.declared.site.Site.{Site}
use Rattle.farm_model.specs.declared.state.Direction.{Direction}
use Rattle.farm_base.specs.declared.step.Step.{Step}
use Rattle.farm_base.specs.declared.step.Step.TheVariants.{Up, Accept, Opened, Send, Deliver, Lose, Cut, Drop}
use Rattle.farm_base.specs.declared.step.Step.TheVariants.{Restart, Crash, Pick, Charge, Refuse, Emit, Sweep, ChangeTerms}
use Rattle.farm_model.specs.Arrival.{AtRelay, after_relay_turn, after_arrival_at_front, after_arrival_at_client, ArrivesAtServer, Arrives}
use Rattle.farm_model.specs.SoundSite.{IsSound}
use Rattle.farm_model.specs.FarmStep.{Flight, FarmStep, Outcome, Delivers, DropsIt, can_cut, flight_at, loss_at, after_lost_message, after_send_on, after_send}
use Rattle.farm_model.specs.FarmStep.{can_connect, with_new_connection, after_accept, after_opened_on, after_opened, opened_if, after_up, with_pick}
use Rattle.farm_model.specs.FarmStep.{after_pick_at, after_refusal_at, with_emit, after_emit_at, with_charge, after_charge_at, after_sweep_at, after_change_at}
use Rattle.farm_model.specs.FarmStep.{can_restart, after_crash_at}
use Rattle.farm_model.specs.Loss.{Loss, LossAt, LearnLosses, all_know, learns, after_end, EndGoes, end_with, after_losing_all, CutsBoth, after_crash, peers_of}
use Rattle.farm_model.specs.Loss.{DropAll, all_dropped, drops_too}
use Rattle.farm_law.specs.Lists.{Has}
use Rattle.dia_base.proofs.Finding.{found_passes}
use Rattle.farm_base.specs.Nodes.{is_node, is_client}
use Rattle.farm_model.specs.World.{Ends, WorldState, is_between, is_inward, is_unheard, conn_known, without_end, emptied, front_at, relay_at}
use Rattle.farm_model.proofs.Lists.Among.{Has-filter, Has-map}
use Rattle.farm_model.proofs.Lists.Finding.{Has-found}
use Rattle.farm_model.proofs.Wiring.Apart.{AreApart}
use Rattle.farm_model.proofs.Wiring.ApartAfterStep.{apart_without}
use Rattle.farm_model.proofs.Wiring.KindsAgree.{KindsAgree, wired_kinds, learn_kinds, crash_kinds}
use Rattle.farm_model.proofs.Wiring.KnowsAfterCrash.{crash_knows}
use Rattle.farm_model.proofs.Wiring.KnowsAfterEnd.{end_known, end_unknown}
use Rattle.farm_model.proofs.Wiring.KnowsAfterLoss.{losses_known}
use Rattle.farm_model.proofs.Wiring.KnowsAfterUp.{accept_knows, opened_knows, up_opened_knows}
use Rattle.farm_model.proofs.Wiring.KnowsPeers.{KnowsPeers}
use Rattle.farm_model.proofs.Wiring.SamePeers.{SameLinks, flight_stands, loss_stands, same_relays, same_links_after, received_same_node, same_knows}
use Rattle.farm_model.proofs.Wiring.Sides.{Side, sides, sides_sent, sides_posted, side_of, direction_of}
use Rattle.farm_model.proofs.Wiring.StandingOn.{losses_go_on}
use Rattle.farm_model.proofs.Wiring.Wired.{Joins, IsWired}
use Rattle.farm_model.proofs.Wiring.WorldLemmas.{direction_nodes}

-- the same relays, and the same directions but for their messages
pub same_directions_know : {site : Site} (old new : WorldState) → sides new.directions ≡ sides old.directions → new.relays ≡ old.relays → KnowsPeers site old →
    KnowsPeers site new
same_directions_know old new directions relays known = same_knows old new directions (subst (SameLinks old.relays) (sym relays) (same_relays old.relays)) known

module _ {site : Site} (w : WorldState) (known : KnowsPeers site w) where
  outcome_knows : (o : Option WorldState) (applied : Bool) (next : WorldState) → IfSome o (KnowsPeers site) → Outcome o applied w next → KnowsPeers site next
  outcome_knows None applied next knows made = subst (KnowsPeers site) (sym made.1) known
  outcome_knows (Some other) applied next knows made = subst (KnowsPeers site) (sym made.1) knows

  -- ---- messages that are sent and lost

  send_in_knows : (client : NodeNo) (message : Message) (o : Option ConnId) → IfSome (after_send_on w client message o) (KnowsPeers site)
  send_in_knows client message None = tt
  send_in_knows client message (Some conn) = same_directions_know w _ (sides_posted client w.directions conn message) refl known

  send_knows : (client to : NodeNo) (message : Message) → IfSome (after_send site w client to message) (KnowsPeers site)
  send_knows client to message = go (is_client site client)
    where
      go : (b : Bool) → IfSome (cond b (after_send_on w client message (conn_known w.directions client to)) None) (KnowsPeers site)
      go true = send_in_knows client message (conn_known w.directions client to)
      go false = tt

  flown_knows : (from to : NodeNo) (place : ℕ) (flight : Flight) → flight_at w.directions from to place ≡ Some flight → KnowsPeers site
      (record w { directions = flight.directions })
  flown_knows from to place flight e = same_directions_know w (record w { directions = flight.directions })
      (flight_stands w.directions from to place flight e).same refl known

  lose_knows : (from to : NodeNo) (place : ℕ) (o : Option Flight) → loss_at w.directions from to place ≡ o → IfSome (after_lost_message w o) (KnowsPeers site)
  lose_knows from to place None e = tt
  lose_knows from to place (Some flight) e = same_directions_know w (record w { directions = flight.directions })
      (loss_stands w.directions from to place flight e).same refl known

  -- ---- workers of fronts

  picked_knows : (node : NodeNo) (o : Option FrontState) → IfSome (with_pick w node o) (KnowsPeers site)
  picked_knows node None = tt
  picked_knows node (Some front) = same_directions_know w _ refl refl known

  pick_knows : (node : NodeNo) (worker : ℕ) (o : Option FrontState) → IfSome (after_pick_at w node worker o) (KnowsPeers site)
  pick_knows node worker None = tt
  pick_knows node worker (Some front) = picked_knows node (after_pick front worker)

  refuse_knows : (node : NodeNo) (worker : ℕ) (o : Option FrontState) → IfSome (after_refusal_at w node worker o) (KnowsPeers site)
  refuse_knows node worker None = tt
  refuse_knows node worker (Some front) = picked_knows node (after_refusal front worker)

  emitted_knows : (node : NodeNo) (o : Option (FrontState × Traffic)) → IfSome (with_emit w node o) (KnowsPeers site)
  emitted_knows node None = tt
  emitted_knows node (Some turn) = same_directions_know w _ (sides_sent node w.directions turn.1) refl known

  emit_knows : (node : NodeNo) (worker : ℕ) (o : Option FrontState) → IfSome (after_emit_at w node worker o) (KnowsPeers site)
  emit_knows node worker None = tt
  emit_knows node worker (Some front) = emitted_knows node (after_emit front worker)

  charged_knows : (node : NodeNo) (o : Option (FrontState × Ledger)) → IfSome (with_charge w node o) (KnowsPeers site)
  charged_knows node None = tt
  charged_knows node (Some turn) = same_directions_know w _ refl refl known

  charge_knows : (node : NodeNo) (worker : ℕ) (moment : Moment) (o : Option FrontState) → IfSome (after_charge_at w node worker moment o) (KnowsPeers site)
  charge_knows node worker moment None = tt
  charge_knows node worker moment (Some front) = charged_knows node (after_charge front w.book moment worker)

  -- ---- a message comes

  turn_knows : (node : NodeNo) (conn : ConnId) (message : Message) (next : WorldState) (o : Option RelayState) → relay_at node w.relays ≡ o → AtRelay w node
      (Received conn message) o next → KnowsPeers site next
  turn_knows node conn message next None e next_is = subst (KnowsPeers site) (sym next_is) known
  turn_knows node conn message next (Some relay) e turn =
      let links = ap (λ (n : RelayNode). n.peers.links) (received_same_node relay turn.after conn message turn.sent turn.turn) in
      subst (KnowsPeers site) (sym turn.next_is) (same_knows w (after_relay_turn w node turn.sent turn.after) (sides_sent node w.directions turn.sent)
      (same_links_after node relay turn.after w.relays e links) known)

  server_knows : (node : NodeNo) (conn : ConnId) (message : Message) (next : WorldState) (o : Option FrontState) → ArrivesAtServer w node conn message o next →
      KnowsPeers site next
  server_knows node conn message next None at_relay = turn_knows node conn message next (relay_at node w.relays) refl at_relay
  server_knows node conn message next (Some front) next_is = subst (KnowsPeers site) (sym next_is) (go (is_among front.connections conn))
    where
      go : (b : Bool) → KnowsPeers site (cond b (after_arrival_at_front w node conn message front) w)
      go true = same_directions_know w (after_arrival_at_front w node conn message front) (sides_sent node w.directions (sent_at_arrival front conn message))
          refl known
      go false = known

  arrival_knows : (node : NodeNo) (conn : ConnId) (message : Message) (next : WorldState) → Arrives site w node conn message next → KnowsPeers site next
  arrival_knows node conn message next arrives = go (is_client site node) arrives
    where
      go : (b : Bool) → MatchBool b (next ≡ after_arrival_at_client w conn message) (ArrivesAtServer w node conn message (front_at node w.fronts) next) →
          KnowsPeers site next
      go true next_is = subst (KnowsPeers site) (sym next_is) (same_directions_know w (after_arrival_at_client w conn message) refl refl known)
      go false at_server = server_knows node conn message next (front_at node w.fronts) at_server

deliver_knows : {site : Site} (w : WorldState) → KnowsPeers site w → (from to : NodeNo) (place : ℕ) (applied : Bool) (next : WorldState) (o : Option Flight) →
    flight_at w.directions from to place ≡ o → Delivers site w to o applied next → KnowsPeers site next
deliver_knows {site} w known from to place applied next None e made = subst (KnowsPeers site) (sym made.1) known
deliver_knows {site} w known from to place applied next (Some flight) e made = arrival_knows (record w { directions = flight.directions })
    (flown_knows w known from to place flight e) to flight.conn flight.message next made.1

-- ---- connections come and go

-- what is asked of the farm while a step goes on
pub record StandsWell (site : Site) (ends : Ends) (w : WorldState) : Type 0 where
  pub joined : (d : Direction) → Has d w.directions → Joins ends d.conn d.from d.to
  pub apart : AreApart (sides w.directions)
  pub kinds : KindsAgree site w
  pub known : KnowsPeers site w

-- directions of the same sides join the same nodes
pub joined_by_sides : {ends : Ends} (old new : List Direction) → sides new ≡ sides old → ((d : Direction) → Has d old → Joins ends d.conn d.from d.to) →
    (d : Direction) → Has d new → Joins ends d.conn d.from d.to
joined_by_sides {ends} old new same joined d h =
    let of = direction_of old (side_of d) (subst (λ (ss : List Side). Has (side_of d) ss) same (Has-map side_of h)) in
    subst (λ (s : Side). Joins ends s.0 s.1 s.2) of.side_is (joined of.direction of.among)

pub learned_kinds : {site : Site} {losses : List Loss} {w last : WorldState} {later : List LossAt} → LearnLosses losses w later last → KindsAgree site w →
    KindsAgree site last
learned_kinds all_know kinds = kinds
learned_kinds (learns {loss} {losses} {w} {next} one more) kinds = learned_kinds more (learn_kinds w next loss kinds one)

pub end_found_at : (directions : List Direction) (a b : NodeNo) (d : Direction) → end_with directions a b ≡ Some d → Has d directions × (d.to ≡ a)
end_found_at directions a b d e = (Has-found (is_between b a) directions e, (direction_nodes b a d (found_passes (is_between b a) directions d e)).1)

pub sides_emptied : (a b : NodeNo) (directions : List Direction) → sides (map (emptied a b) directions) ≡ sides directions
sides_emptied a b [] = refl
sides_emptied a b (d ∷ directions) = ap (λ (s : Side). s ∷ sides (map (emptied a b) directions)) (same d (is_between a b d || is_between b a d)) ∙ ap
    (λ (ss : List Side). side_of d ∷ ss) (sides_emptied a b directions)
  where
    same : (d : Direction) (c : Bool) → side_of (cond c (record d { messages = [] }) d) ≡ side_of d
    same d true = refl
    same d false = refl

module _ {site : Site} {ends : Ends} where
  -- an end goes
  pub end_stands : (w after : WorldState) (node : NodeNo) (found : Option Direction) (losses : List LossAt) →
      ((d : Direction) → found ≡ Some d → Has d w.directions × (d.to ≡ node)) → EndGoes w node found losses after → StandsWell site ends w → StandsWell site
      ends after
  end_stands w after node None losses is goes well = subst (StandsWell site ends) (sym goes.1) well
  end_stands w after node (Some direction) losses is goes well = go direction.known refl goes
    where
      left : List Direction
      left = without_end node direction.conn w.directions

      go : (b : Bool) → direction.known ≡ b → MatchBool b
          (LearnLosses (record { node = node; conn = direction.conn } ∷ []) (after_end w node direction.conn) losses after)
          ((losses ≡ []) × (after ≡ after_end w node direction.conn)) → StandsWell site ends after
      go true e learn =
          let same = ((losses_go_on (λ side. true) (λ loss h side at. refl) learn).directions).same in
          record {
            joined = joined_by_sides left after.directions same
                (λ d h. well.joined d (Has-filter (λ d. not (is_inward node direction.conn d)) w.directions h).0);
            apart = subst AreApart (sym same) (apart_without (λ d. not (is_inward node direction.conn d)) w.directions well.apart);
            kinds = learned_kinds learn (record { fronts = well.kinds.fronts; relays = well.kinds.relays });
            known = losses_known learn (record { fronts = well.kinds.fronts; relays = well.kinds.relays })
                (end_known w well.joined well.apart well.known node direction (is direction refl).0 (is direction refl).1);
          }
      go false e idle = subst (StandsWell site ends) (sym idle.1) (record {
        joined = λ d h. well.joined d (Has-filter (λ d. not (is_inward node direction.conn d)) w.directions h).0;
        apart = apart_without (λ d. not (is_inward node direction.conn d)) w.directions well.apart;
        kinds = record { fronts = well.kinds.fronts; relays = well.kinds.relays };
        known = end_unknown w well.joined well.apart well.known node direction (is direction refl).0 (is direction refl).1 e;
      })

  pub cut_stands : (w after : WorldState) (a b : NodeNo) (losses : List LossAt) → CutsBoth w a b losses after → StandsWell site ends w → StandsWell site ends
      after
  cut_stands w after a b losses cut well =
      let none = after_losing_all w a b in
      let same = sides_emptied a b w.directions in
      let emptied_well : StandsWell site ends none = record {
        joined = joined_by_sides w.directions none.directions same well.joined;
        apart = subst AreApart (sym same) well.apart;
        kinds = record { fronts = well.kinds.fronts; relays = well.kinds.relays };
        known = same_directions_know w none same refl well.known;
      } in
      end_stands cut.middle after b (end_with cut.middle.directions b a) cut.second (end_found_at cut.middle.directions b a) cut.other
      (end_stands none cut.middle a (end_with none.directions a b) cut.first (end_found_at none.directions a b) cut.one emptied_well)

  pub all_drop_stand : {node : NodeNo} {peers : List NodeNo} {w after : WorldState} {losses : List LossAt} → DropAll node peers w losses after → StandsWell
      site ends w → StandsWell site ends after
  all_drop_stand all_dropped well = well
  all_drop_stand {node = node} (drops_too {peer = peer} {w = w} {next = mid} now later is one more) well = all_drop_stand more
      (end_stands w mid peer (end_with w.directions peer node) now (end_found_at w.directions peer node) one well)

  pub crash_stands : (w : WorldState) (node : NodeNo) → StandsWell site ends w → StandsWell site ends (after_crash w node)
  crash_stands w node well = record {
    joined = λ d h. well.joined d (Has-filter (λ d. not (is_node d.to node)) w.directions h).0;
    apart = apart_without (λ d. not (is_node d.to node)) w.directions well.apart;
    kinds = crash_kinds w node well.kinds;
    known = crash_knows w well.known node;
  }

module _ {site : Site} {ends : Ends} (w : WorldState) (wired : IsWired site ends w) (apart : AreApart (sides w.directions)) (known : KnowsPeers site w) where
  stands_well : StandsWell site ends w
  stands_well = record { joined = λ d h. (wired.directions d h).joins; apart = apart; kinds = wired_kinds wired; known = known }

  accepting_knows : IsSound site → (at from : NodeNo) → IfSome (after_accept site w at from) (KnowsPeers site)
  accepting_knows checked at from = go (can_connect site w from at) refl
    where
      go : (c : Bool) → can_connect site w from at ≡ c → IfSome (cond c (Some (with_new_connection w from at)) None) (KnowsPeers site)
      go true e = accept_knows checked w wired known from at e
      go false e = tt

  opening_knows : IsSound site → (a b : NodeNo) → IfSome (after_opened w a b) (KnowsPeers site)
  opening_knows checked a b = go (find (is_unheard b a) w.directions) refl
    where
      go : (o : Option Direction) → find (is_unheard b a) w.directions ≡ o → IfSome (after_opened_on w a b o) (KnowsPeers site)
      go None e = tt
      go (Some direction) e = opened_knows checked w wired known apart a b direction e _ refl refl

  cutting_knows : (a b : NodeNo) (applied : Bool) (losses : List LossAt) (next : WorldState) (can : Bool) → MatchBool can
      ((applied ≡ true) × CutsBoth w a b losses next) ((applied ≡ false) × (losses ≡ []) × (next ≡ w)) → KnowsPeers site next
  cutting_knows a b applied losses next true made = (cut_stands w next a b losses made.1 stands_well).known
  cutting_knows a b applied losses next false made = subst (KnowsPeers site) (sym made.2) known

  dropping_knows : (a b : NodeNo) (applied : Bool) (losses : List LossAt) (next : WorldState) → DropsIt w a (end_with w.directions a b) applied losses next →
      KnowsPeers site next
  dropping_knows a b applied losses next made = (end_stands w next a (end_with w.directions a b) losses (end_found_at w.directions a b) made.1
      stands_well).known

  crashing_knows : (node : NodeNo) → IfSome (after_crash_at site w node) (KnowsPeers site)
  crashing_knows node = go (can_restart site node)
    where
      go : (c : Bool) → IfSome (cond c (Some (after_crash w node)) None) (KnowsPeers site)
      go true = crash_knows w known node
      go false = tt

  restarting_knows : (node : NodeNo) (applied : Bool) (losses : List LossAt) (next : WorldState) (can : Bool)
      → MatchBool can ((applied ≡ true) × DropAll node (peers_of node w.directions) (after_crash w node) losses next)
      ((applied ≡ false) × (losses ≡ []) × (next ≡ w)) → KnowsPeers site next
  restarting_knows node applied losses next true made = (all_drop_stand made.1 (crash_stands w node stands_well)).known
  restarting_knows node applied losses next false made = subst (KnowsPeers site) (sym made.2) known

-- ---- up: accept, and then opened

module _ {site : Site} {ends : Ends} (checked : IsSound site) (w : WorldState) (wired : IsWired site ends w) (apart : AreApart (sides w.directions))
    (known : KnowsPeers site w) (a b : NodeNo) where
  -- the next one, of which the node that opens it has not learned, is the only one
  pub up_knows : IfSome (after_up site w a b) (KnowsPeers site)
  up_knows = go (can_connect site w a b) refl
    where
      opens : can_connect site w a b ≡ true → (o : Option Direction) → find (is_unheard b a) (with_new_connection w a b).directions ≡ o → IfSome
          (after_opened_on (with_new_connection w a b) a b o) (KnowsPeers site)
      opens can None e = tt
      opens can (Some direction) e = up_opened_knows checked w wired known a b can direction e _ refl refl

      go : (c : Bool) → can_connect site w a b ≡ c → IfSome (opened_if a b (cond c (Some (with_new_connection w a b)) None)) (KnowsPeers site)
      go true e = opens e (find (is_unheard b a) (with_new_connection w a b).directions) refl
      go false e = tt

-- ---- any step

pub step_knows : {site : Site} {ends : Ends} → IsSound site → (old new : WorldState) (step : Step) (applied : Bool) (losses : List LossAt) → IsWired site
    ends old → AreApart (sides old.directions) → FarmStep site old step applied losses new → KnowsPeers site old → KnowsPeers site new
step_knows {site} checked old new (Accept at from) applied losses wired apart made known = outcome_knows old known (after_accept site old at from) applied new
    (accepting_knows old wired apart known checked at from) made.0
step_knows {site} checked old new (Opened a b) applied losses wired apart made known = outcome_knows old known (after_opened old a b) applied new
    (opening_knows old wired apart known checked a b) made.0
step_knows {site} {ends} checked old new (Up a b) applied losses wired apart made known = outcome_knows old known (after_up site old a b) applied new
    (up_knows checked old wired apart known a b) made.0
step_knows {site} checked old new (Send client to message) applied losses wired apart made known =
    outcome_knows old known (after_send site old client to message) applied new (send_knows old known client to message) made.0
step_knows checked old new (Deliver from to place) applied losses wired apart made known = deliver_knows old known from to place applied new
    (flight_at old.directions from to place) refl made.0
step_knows checked old new (Lose from to place) applied losses wired apart made known = outcome_knows old known
    (after_lost_message old (loss_at old.directions from to place)) applied new
    (lose_knows old known from to place (loss_at old.directions from to place) refl) made.0
step_knows checked old new (Cut a b) applied losses wired apart made known = cutting_knows old wired apart known a b applied losses new (can_cut old a b)
    made
step_knows checked old new (Drop a b) applied losses wired apart made known = dropping_knows old wired apart known a b applied losses new made
step_knows {site} checked old new (Crash node) applied losses wired apart made known = outcome_knows old known (after_crash_at site old node) applied new
    (crashing_knows old wired apart known node) made.0
step_knows {site} checked old new (Restart node) applied losses wired apart made known = restarting_knows old wired apart known node applied losses new
    (can_restart site node) made
step_knows checked old new (Pick node worker) applied losses wired apart made known = outcome_knows old known
    (after_pick_at old node worker (front_at node old.fronts)) applied new (pick_knows old known node worker (front_at node old.fronts)) made.0
step_knows checked old new (Charge node worker moment) applied losses wired apart made known =
    outcome_knows old known (after_charge_at old node worker moment (front_at node old.fronts)) applied new
    (charge_knows old known node worker moment (front_at node old.fronts)) made.0
step_knows checked old new (Refuse node worker) applied losses wired apart made known = outcome_knows old known
    (after_refusal_at old node worker (front_at node old.fronts)) applied new (refuse_knows old known node worker (front_at node old.fronts)) made.0
step_knows checked old new (Emit node worker) applied losses wired apart made known = outcome_knows old known
    (after_emit_at old node worker (front_at node old.fronts)) applied new (emit_knows old known node worker (front_at node old.fronts)) made.0
step_knows checked old new (ChangeTerms moment change) applied losses wired apart made known = outcome_knows old known (Some (after_change_at old moment change)) applied
    new (same_directions_know old (after_change_at old moment change) refl refl known) made.0
step_knows checked old new (Sweep moment) applied losses wired apart made known = outcome_knows old known (Some (after_sweep_at old moment)) applied new
    (same_directions_know old (after_sweep_at old moment) refl refl known) made.0
