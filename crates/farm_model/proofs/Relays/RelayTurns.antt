-- A relay of the farm does one thing after another at what happens to it: where an event comes to a node, where connections
-- end, and where one comes up. What it sends comes behind what is in flight on its connections.
use Rattle.std.proofs.Common.{◌≡◌, ℕ, suc, Bool, true, false, cond, List, [], ◌∷◌, ◌++◌, length, Option, Some, None, refl, sym, subst, ap, ◌∙◌}
use Rattle.std.proofs.Common.{append_assoc, append-nil}
use Rattle.std.specs.Prelude.{MatchBool, MatchOption, option_map}
use Rattle.std.specs.List.{find}
use Rattle.std.proofs.lemmas.Bool.{both_ways}
use Rattle.std.proofs.lemmas.Option.{same_Some}
use Rattle.dia_base.specs.declared.number.ConnId.{ConnId}
use Rattle.dia_base.specs.declared.number.NodeNo.{NodeNo}
use Rattle.dia_message.specs.declared.message.Message.{Message}
use Rattle.dia_message.specs.declared.message.Out.{Out}
use Rattle.dia_message.specs.Traffic.{Traffic}
use Rattle.front_core.specs.FrontState.{FrontState, is_among}
use Rattle.front_core.specs.FrontStep.{sent_at_arrival}
use Rattle.relay_core.specs.declared.error.RelayError.{RelayError}
use Rattle.relay_core.specs.declared.run.RelayEvent.{RelayEvent}
use Rattle.relay_core.specs.declared.run.RelayEvent.TheVariants.{Up, Received, Lost, Restart}
use Rattle.relay_core.specs.Connecting.{up_fault, after_up, after_restart as restarted_relay}
use Rattle.relay_core.specs.RelayRun.{IsIdle, OnEvent, IsRun, one_more, RelayStep}
use Rattle.relay_core.specs.RelayState.{RelayState}
use Rattle.farm_law.specs.Lists.{Has}
use Rattle.farm_base.specs.declared.site.Site.{Site}
use Rattle.farm_model.specs.declared.state.Direction.{Direction}
use Rattle.farm_model.specs.declared.state.RelayAt.{RelayAt}
use Rattle.farm_model.specs.Arrival.{AtRelay, after_arrival_at_client, after_arrival_at_front, ArrivesAtServer}
use Rattle.farm_model.specs.FarmStep.{after_up_by, with_link_of, with_link_at}
use Rattle.farm_model.specs.Loss.{Loss, LossAt, LearnsLoss, LearnLosses, all_know, learns, with_restart_of_relay, after_crash}
use Rattle.farm_base.specs.Nodes.{is_node, is_client, is_relay, kind_at}
use Rattle.farm_model.specs.RelayRuns.{event_if}
use Rattle.farm_model.specs.World.{WorldState, with_traffic_from, is_relay_at, with_relay, front_at, relay_at}
use Rattle.farm_model.proofs.Wiring.KindsAgree.{KindsAgree, learn_kinds, not_both}
use Rattle.farm_model.proofs.Lists.Numbering.{same_node, node_itself}
use Rattle.farm_model.proofs.Wiring.OneKind.{relay_no_client}
use Rattle.farm_model.proofs.Relays.SentBehind.{OneOut, traffic_one_out, Untouched, others_traffic, Behind, behind_nothing, behind_one, behind_more}
use Rattle.farm_model.proofs.Relays.SentBehind.{BehindOn, behind_on_more}
use Rattle.farm_model.proofs.Wiring.Sides.{Side}

-- ---- one thing after another

pub data Turns : RelayState → List RelayEvent → List Out → RelayState → Type 0 where
  stays : {relay : RelayState} → Turns relay [] [] relay
  turns : {relay : RelayState} (event : RelayEvent) (out : Out) (mid : RelayState) {last : RelayState} {events : List RelayEvent} {outs : List Out} →
      OnEvent relay event out.items mid → Turns mid events outs last → Turns relay (event ∷ events) (out ∷ outs) last

pub Turns-more : {one two three : RelayState} {xs ys : List RelayEvent} {os ps : List Out} → Turns one xs os two → Turns two ys ps three → Turns one (xs ++ ys)
    (os ++ ps) three
Turns-more stays more = more
Turns-more (turns event out mid turn rest) more = turns event out mid turn (Turns-more rest more)

-- at each event once
pub Turns-length : {one two : RelayState} {events : List RelayEvent} {outs : List Out} → Turns one events outs two → length outs ≡ length events
Turns-length stays = refl
Turns-length (turns event out mid turn rest) = ap (λ (n : ℕ). suc n) (Turns-length rest)

-- a run goes on by them
pub run_on : {first mid last : RelayState} {events more : List RelayEvent} {outs later : List Out} {past : List RelayStep} → IsRun first events outs past mid →
    Turns mid more later last → (steps : List RelayStep) × IsRun first (events ++ more) (outs ++ later) steps last
run_on {first} {mid} {events = events} {outs = outs} {past = past} run stays = (
  past,
  subst (λ (es : List RelayEvent). IsRun first es (outs ++ []) past mid) (sym (append-nil events))
      (subst (λ (os : List Out). IsRun first events os past mid) (sym (append-nil outs)) run),
)
run_on {first} {mid} {last} {events = events} {outs = outs} {past = past} run (turns event out next {events = more} {outs = later} turn rest) =
    let all = run_on (one_more events event outs out past mid next run turn) rest in (
      all.0,
      subst (λ (es : List RelayEvent). IsRun first es (outs ++ out ∷ later) all.0 last) (append_assoc events (event ∷ []) more)
          (subst (λ (os : List Out). IsRun first ((events ++ event ∷ []) ++ more) os all.0 last) (append_assoc outs (out ∷ []) later) all.1),
    )

-- ---- the relay at a node

pub record Reaches (node : NodeNo) (relay : RelayState) (events : List RelayEvent) (old new : WorldState) : Type 0 where
  pub outs : List Out
  pub last : RelayState
  pub turns : Turns relay events outs last
  pub at : relay_at node new.relays ≡ Some last
  pub behind : Behind node outs old.directions new.directions

-- it is in the one farm what it has become of that in the other by these events
abbrev pub Turned : NodeNo → List RelayEvent → WorldState → WorldState → Type 0
Turned node events old new = (relay : RelayState) → relay_at node old.relays ≡ Some relay → Reaches node relay events old new

pub same_relay : (node : NodeNo) (old new : WorldState) → relay_at node new.relays ≡ relay_at node old.relays → Untouched node old.directions new.directions →
    Turned node [] old new
same_relay node old new same untouched relay at = record {
  outs = [];
  last = relay;
  turns = stays;
  at = same ∙ at;
  behind = behind_nothing node old.directions
      new.directions untouched;
}

pub turned_more : (node : NodeNo) {xs ys : List RelayEvent} (one two three : WorldState) → Turned node xs one two → Turned node ys two three → Turned node
    (xs ++ ys) one three
turned_more node one two three first second relay at =
    let f = first relay at in
    let s = second f.last f.at in
    record {
      outs = f.outs ++ s.outs;
      last = s.last;
      turns = Turns-more f.turns s.turns;
      at = s.at;
      behind = behind_more node f.outs s.outs one.directions
          two.directions three.directions f.behind s.behind;
    }

-- so it is where its directions of these sides stand on
pub record ReachesOn (Stands : Side → Type 0) (node : NodeNo) (relay : RelayState) (events : List RelayEvent) (old new : WorldState) : Type 0 where
  pub outs : List Out
  pub last : RelayState
  pub turns : Turns relay events outs last
  pub at : relay_at node new.relays ≡ Some last
  pub behind : BehindOn Stands node outs old.directions new.directions

abbrev pub TurnedOn : (Side → Type 0) → NodeNo → List RelayEvent → WorldState → WorldState → Type 0
TurnedOn Stands node events old new = (relay : RelayState) → relay_at node old.relays ≡ Some relay → ReachesOn Stands node relay events old new

pub turned_on : (Stands : Side → Type 0) (node : NodeNo) {events : List RelayEvent} (old new : WorldState)
    → Turned node events old new → TurnedOn Stands node events old new
turned_on Stands node old new turned relay at =
    let r = turned relay at in
    record { outs = r.outs; last = r.last; turns = r.turns; at = r.at; behind = λ direction h from stands. r.behind direction h from }

pub turned_on_more : (Stands : Side → Type 0) (node : NodeNo) (xs ys : List RelayEvent) (one two three : WorldState)
    → TurnedOn Stands node xs one two → TurnedOn Stands node ys two three → TurnedOn Stands node (xs ++ ys) one three
turned_on_more Stands node xs ys one two three first second relay at =
    let f = first relay at in
    let s = second f.last f.at in
    record {
      outs = f.outs ++ s.outs;
      last = s.last;
      turns = Turns-more f.turns s.turns;
      at = s.at;
      behind = behind_on_more Stands node f.outs s.outs one.directions two.directions three.directions f.behind s.behind;
    }

pub all_untouched : (node : NodeNo) (old new : List Direction) → new ≡ old → Untouched node old new
all_untouched node old new same direction h from = subst (Has direction) (sym same) h

-- ---- one relay changed

relay_now : (node : NodeNo) (new old : RelayState) (relays : List RelayAt) → relay_at node relays ≡ Some old → relay_at node (with_relay node new relays) ≡
    Some new
relay_now node new old [] e = absurd cc
relay_now node new old (at ∷ relays) e = go (is_node at.node node) refl (relay_now node new old relays) e
  where
    go : (b : Bool) → is_node at.node node ≡ b → (relay_at node relays ≡ Some old → relay_at node (with_relay node new relays) ≡ Some new) → option_map
        (λ (a : RelayAt). a.relay) (cond b (Some at) (find (is_relay_at node) relays)) ≡ Some old
        → option_map (λ (a : RelayAt). a.relay) (find (is_relay_at node)
        (cond b (record { node = node; relay = new } ∷ relays) (at ∷ with_relay node new relays))) ≡ Some new
    go true is more k = ap (λ (b : Bool). option_map (λ (a : RelayAt). a.relay)
        (cond b (Some (record { node = node; relay = new })) (find (is_relay_at node) relays))) (node_itself node)
    go false is more k = ap (λ (b : Bool). option_map (λ (a : RelayAt). a.relay) (cond b (Some at) (find (is_relay_at node) (with_relay node new relays)))) is
        ∙ more k

relay_elsewhere : (node : NodeNo) (new : RelayState) (relays : List RelayAt) (other : NodeNo) → is_node node other ≡ false → relay_at other
    (with_relay node new relays) ≡ relay_at other relays
relay_elsewhere node new [] other apart = refl
relay_elsewhere node new (at ∷ relays) other apart = go (is_node at.node node) refl (relay_elsewhere node new relays other apart)
  where
    behind : (b : Bool) → relay_at other (with_relay node new relays) ≡ relay_at other relays
        → option_map (λ (a : RelayAt). a.relay) (cond b (Some at) (find (is_relay_at other) (with_relay node new relays))) ≡ option_map
        (λ (a : RelayAt). a.relay) (cond b (Some at) (find (is_relay_at other) relays))
    behind true more = refl
    behind false more = more

    go : (b : Bool) → is_node at.node node ≡ b → relay_at other (with_relay node new relays) ≡ relay_at other relays
        → option_map (λ (a : RelayAt). a.relay) (find (is_relay_at other)
        (cond b (record { node = node; relay = new } ∷ relays) (at ∷ with_relay node new relays))) ≡ relay_at other (at ∷ relays)
    go true is more =
        let passed : is_node at.node other ≡ false = ap (λ (m : NodeNo). is_node m other) (same_node at.node node is) ∙ apart in
        ap (λ (b : Bool). option_map (λ (a : RelayAt). a.relay) (cond b (Some (record { node = node; relay = new })) (find (is_relay_at other) relays))) apart
        ∙ sym (ap (λ (b : Bool). option_map (λ (a : RelayAt). a.relay) (cond b (Some at) (find (is_relay_at other) relays))) passed)
    go false is more = behind (is_node at.node other) more

-- ---- an event comes to a node

-- what becomes of the farm where the node is a relay, and where it is none
abbrev Changes : NodeNo → RelayEvent → WorldState → Option RelayState → WorldState → Type 0
Changes node event old None new = (new.relays ≡ old.relays) × (new.directions ≡ old.directions)
Changes node event old (Some relay) new = (sent : Traffic) × (after : RelayState) × OnEvent relay event sent after ×
    (new.relays ≡ with_relay node after old.relays) × (new.directions ≡ with_traffic_from node old.directions sent)

module _ (k node : NodeNo) (event : RelayEvent) (old new : WorldState) (single : OneOut old.directions) where
  there_turns : node ≡ k → (o : Option RelayState) → relay_at node old.relays ≡ o → Changes node event old o new → Turned k (event ∷ []) old new
  there_turns same None at unchanged relay here_is = let no : None ≡ Some relay = sym at ∙ ap (λ (n : NodeNo). relay_at n old.relays) same ∙ here_is in absurd
      cc
  there_turns same (Some found) at changed relay here_is =
      let is : found ≡ relay = same_Some found relay (sym at ∙ ap (λ (n : NodeNo). relay_at n old.relays) same ∙ here_is) in
      let out : Out = record { items = changed.0 } in
      record {
        outs = out ∷ [];
        last = changed.1;
        turns = turns event out changed.1 (subst (λ (r : RelayState). OnEvent r event changed.0 changed.1) is changed.2) stays;
        at = ap (relay_at k) changed.3 ∙ ap (λ (n : NodeNo). relay_at k (with_relay n changed.1 old.relays)) same ∙ relay_now k changed.1 relay old.relays
            here_is;
        behind = subst (Behind k (out ∷ []) old.directions) (sym (changed.4 ∙ ap (λ (n : NodeNo). with_traffic_from n old.directions changed.0) same))
            (behind_one k old.directions out single);
      }

  elsewhere_stays : is_node node k ≡ false → (o : Option RelayState) → Changes node event old o new → Turned k [] old new
  elsewhere_stays apart None unchanged = same_relay k old new (ap (relay_at k) unchanged.0) (all_untouched k old.directions new.directions unchanged.1)
  elsewhere_stays apart (Some found) changed =
      same_relay k old new (ap (relay_at k) changed.3 ∙ relay_elsewhere node changed.1 old.relays k apart)
      (subst (Untouched k old.directions) (sym changed.4) (others_traffic k node old.directions changed.0 apart))

  event_turns : (o : Option RelayState) → relay_at node old.relays ≡ o → Changes node event old o new → Turned k (event_if (is_node node k) event) old new
  event_turns o at changed = go (is_node node k) refl
    where
      go : (b : Bool) → is_node node k ≡ b → Turned k (event_if b event) old new
      go true is = there_turns (same_node node k is) o at changed
      go false is = elsewhere_stays is o changed

at_relay_turns : (k node : NodeNo) (event : RelayEvent) (old new : WorldState) → OneOut old.directions → AtRelay old node event (relay_at node old.relays) new
    → Turned k (event_if (is_node node k) event) old new
at_relay_turns k node event old new single turn = event_turns k node event old new single (relay_at node old.relays) refl (go (relay_at node old.relays) turn)
  where
    go : (o : Option RelayState) → AtRelay old node event o new → Changes node event old o new
    go None same = (ap (λ (w : WorldState). w.relays) same, ap (λ (w : WorldState). w.directions) same)
    go (Some relay) t = (t.sent, t.after, t.turn, ap (λ (w : WorldState). w.relays) t.next_is, ap (λ (w : WorldState). w.directions) t.next_is)

-- ---- a message comes

module _ {site : Site} (k : NodeNo) (old new : WorldState) (to : NodeNo) (conn : ConnId) (message : Message) (kinds : KindsAgree site old)
    (single : OneOut old.directions) where
  at_server_turns : (front : Option FrontState) → front_at to old.fronts ≡ front → ArrivesAtServer old to conn message front new → Turned k
      (event_if (is_node to k) (Received conn message)) old new
  at_server_turns None at turn = at_relay_turns k to (Received conn message) old new single turn
  at_server_turns (Some front) at same = go (is_node to k) refl
    where
      unchanged : (b : Bool) → new ≡ cond b (after_arrival_at_front old to conn message front) old → relay_at k new.relays ≡ relay_at k old.relays
      unchanged true is = ap (λ (w : WorldState). relay_at k w.relays) is
      unchanged false is = ap (λ (w : WorldState). relay_at k w.relays) is

      untouched : is_node to k ≡ false → (b : Bool) → new ≡ cond b (after_arrival_at_front old to conn message front) old → Untouched k old.directions
          new.directions
      untouched apart true is = subst (λ (w : WorldState). Untouched k old.directions w.directions) (sym is)
          (others_traffic k to old.directions (sent_at_arrival front conn message) apart)
      untouched apart false is = all_untouched k old.directions new.directions (ap (λ (w : WorldState). w.directions) is)

      go : (b : Bool) → is_node to k ≡ b → Turned k (event_if b (Received conn message)) old new
      go true is = λ relay here_is. absurd (not_both kinds to front relay at (ap (λ (n : NodeNo). relay_at n old.relays) (same_node to k is) ∙ here_is))
      go false is = same_relay k old new (unchanged (is_among front.connections conn) same) (untouched is (is_among front.connections conn) same)

  pub arrival_turns : is_relay site k ≡ true → (client : Bool) → is_client site to ≡ client → MatchBool client (new ≡ after_arrival_at_client old conn message)
      (ArrivesAtServer old to conn message (front_at to old.fronts) new)
      → Turned k (event_if (is_node to k) (Received conn message)) old new
  arrival_turns relay_is false client_is turn = at_server_turns (front_at to old.fronts) refl turn
  arrival_turns relay_is true client_is same = go (is_node to k) refl
    where
      go : (b : Bool) → is_node to k ≡ b → Turned k (event_if b (Received conn message)) old new
      go true is = absurd (both_ways (is_client site k) (relay_no_client (kind_at site k) relay_is) (ap (is_client site) (sym (same_node to k is)) ∙ client_is))
      go false is = same_relay k old new (ap (λ (w : WorldState). relay_at k w.relays) same)
          (all_untouched k old.directions new.directions (ap (λ (w : WorldState). w.directions) same))

-- ---- connections end

-- what the node learns of these losses
abbrev pub learned_by : NodeNo → List Loss → List RelayEvent
learned_by k [] = []
learned_by k (loss ∷ losses) = event_if (is_node loss.node k) (Lost loss.conn) ++ learned_by k losses

loss_turns : {site : Site} (k : NodeNo) (old new : WorldState) (loss : Loss) → KindsAgree site old → OneOut old.directions → (front : Option FrontState) →
    front_at loss.node old.fronts ≡ front → LearnsLoss old loss front new
    → Turned k (event_if (is_node loss.node k) (Lost loss.conn)) old new
loss_turns k old new loss kinds single None at turn = at_relay_turns k loss.node (Lost loss.conn) old new single turn
loss_turns k old new loss kinds single (Some front) at same = go (is_node loss.node k) refl
  where
    go : (b : Bool) → is_node loss.node k ≡ b → Turned k (event_if b (Lost loss.conn)) old new
    go true is = λ relay here_is. absurd (not_both kinds loss.node front relay at
        (ap (λ (n : NodeNo). relay_at n old.relays) (same_node loss.node k is) ∙ here_is))
    go false is = same_relay k old new (ap (λ (w : WorldState). relay_at k w.relays) same)
        (all_untouched k old.directions new.directions (ap (λ (w : WorldState). w.directions) same))

pub loss_one_out : (old new : WorldState) (loss : Loss) (front : Option FrontState) → LearnsLoss old loss front new → OneOut old.directions → OneOut
    new.directions
loss_one_out old new loss (Some front) same single = subst (λ (w : WorldState). OneOut w.directions) (sym same) single
loss_one_out old new loss None turn single = go (relay_at loss.node old.relays) turn
  where
    go : (o : Option RelayState) → AtRelay old loss.node (Lost loss.conn) o new → OneOut new.directions
    go None same = subst (λ (w : WorldState). OneOut w.directions) (sym same) single
    go (Some relay) t = subst (λ (w : WorldState). OneOut w.directions) (sym t.next_is) (traffic_one_out loss.node old.directions t.sent single)

pub losses_turn : {site : Site} (k : NodeNo) {losses : List Loss} {old new : WorldState} {later : List LossAt} → LearnLosses losses old later new → KindsAgree
    site old → OneOut old.directions → Turned k (learned_by k losses) old new
losses_turn k (all_know {w = w}) kinds single = same_relay k w w refl (all_untouched k w.directions w.directions refl)
losses_turn k {new = new} (learns {loss} {losses} {w} {next} learned rest) kinds single =
    turned_more k w next new (loss_turns k w next loss kinds single (front_at loss.node w.fronts) refl learned)
    (losses_turn k rest (learn_kinds w next loss kinds learned) (loss_one_out w next loss (front_at loss.node w.fronts) learned single))

-- the farm with only the directions that a node leaves which forgets everything
abbrev pub directions_left : WorldState → NodeNo → WorldState
directions_left old node = record old { directions = (after_crash old node).directions }

pub crash_turns : (k node : NodeNo) (old : WorldState) → OneOut (directions_left old node).directions → Turned k (event_if (is_node node k) Restart)
    (directions_left old node) (after_crash old node)
crash_turns k node old single = event_turns k node Restart (directions_left old node) (after_crash old node) single (relay_at node old.relays) refl
    (go (relay_at node old.relays) refl)
  where
    go : (o : Option RelayState) → relay_at node old.relays ≡ o → Changes node Restart (directions_left old node) o (after_crash old node)
    go None e = (ap (with_restart_of_relay node old.relays) e, refl)
    go (Some relay) e = ([], restarted_relay relay, (refl, refl), ap (with_restart_of_relay node old.relays) e, refl)

-- ---- a connection comes up

pub link_turns : (k node peer : NodeNo) (conn : ConnId) (old new : WorldState) → OneOut old.directions → new.relays ≡ with_link_at node peer conn old.relays →
    new.directions ≡ old.directions → Turned k (event_if (is_node node k) (Up peer conn)) old new
link_turns k node peer conn old new single linked same = event_turns k node (Up peer conn) old new single (relay_at node old.relays) refl
    (go (relay_at node old.relays) linked)
  where
    Learns : RelayState → Option RelayError → Traffic → Type 0
    Learns relay fault sent = MatchOption fault ((sent ≡ []) × (after_up_by relay peer conn fault ≡ after_up relay peer conn))
        (λ f. IsIdle relay sent (after_up_by relay peer conn fault))

    up : (relay : RelayState) (fault : Option RelayError) → Learns relay fault []
    up relay None = (refl, refl)
    up relay (Some fault) = (refl, refl)

    go : (o : Option RelayState) → new.relays ≡ with_link_of node peer conn old.relays o → Changes node (Up peer conn) old o new
    go None e = (e, same)
    go (Some relay) e = ([], after_up_by relay peer conn (up_fault relay peer conn), up relay (up_fault relay peer conn), e, same)
