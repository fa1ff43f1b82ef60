-- At each step a front does what happens to it, and puts in flight what it sends.
use Rattle.std.proofs.Common.{◌≡◌, Bool, true, false, cond, List, [], ◌∷◌, ◌++◌, map, Option, Some, None, refl, sym, subst, ap, ◌∙◌}
use Rattle.std.specs.Prelude.{MatchBool, option_map}
use Rattle.std.specs.List.{find}
use Rattle.std.proofs.lemmas.Bool.{both_ways, or_right}
use Rattle.std.proofs.lemmas.Option.{same_Some}
use Rattle.dia_base.specs.declared.number.ConnId.{ConnId}
use Rattle.dia_base.specs.declared.number.NodeNo.{NodeNo}
use Rattle.dia_message.specs.declared.message.Message.{Message}
use Rattle.dia_message.specs.declared.message.Out.{Out}
use Rattle.cc_book.specs.Taking.{Ledger}
use Rattle.front_core.specs.declared.event.FrontEvent.{FrontEvent}
use Rattle.front_core.specs.FrontRun.{after_event, silent_turn, sending_turn}
use Rattle.front_core.specs.FrontState.{FrontState, is_among}
use Rattle.front_core.specs.FrontStep.{after_arrival, sent_at_arrival}
use Rattle.relay_core.specs.declared.run.RelayEvent.{RelayEvent}
use Rattle.relay_core.specs.declared.run.RelayEvent.TheVariants.{Received, Lost}
use Rattle.relay_core.specs.RelayState.{RelayState}
use Rattle.farm_base.specs.declared.site.Site.{Site}
use Rattle.farm_model.specs.declared.state.FrontAt.{FrontAt}
use Rattle.farm_model.specs.Arrival.{AtRelay, after_arrival_at_client, after_arrival_at_front, ArrivesAtServer}
use Rattle.farm_model.specs.FarmStep.{with_connection_of, with_connection_at}
use Rattle.farm_model.specs.Loss.{Loss, LossAt, LearnsLoss, LearnLosses, all_know, learns, with_restart_of_front, after_crash}
use Rattle.farm_model.specs.FrontTurns.{as_front_event, front_after, front_outs}
use Rattle.farm_base.specs.Nodes.{is_node, is_client, is_front, is_relay, kind_at}
use Rattle.farm_model.specs.RelayRuns.{event_if}
use Rattle.farm_model.specs.World.{WorldState, with_traffic_from, is_front_at, with_front, front_at, relay_at}
use Rattle.farm_model.proofs.Lists.Numbering.{same_node, node_itself}
use Rattle.farm_model.proofs.Wiring.OneKind.{server_no_client}
use Rattle.farm_model.proofs.Relays.RelayTurns.{learned_by, all_untouched, loss_one_out, directions_left}
use Rattle.farm_model.proofs.Relays.SentBehind.{OneOut, Untouched, others_traffic, Behind, behind_nothing, behind_one, behind_more, BehindOn, behind_on_more}
use Rattle.farm_model.proofs.Wiring.Sides.{Side}

-- ---- the front at a node

pub record FrontReaches (node : NodeNo) (front : FrontState) (book : Ledger) (events : List FrontEvent) (old new : WorldState) : Type 0 where
  pub at : front_at node new.fronts ≡ Some (front_after front book events)
  pub behind : Behind node (front_outs front book events) old.directions new.directions

-- it is in the one farm what it has become of that in the other by these events
abbrev pub FrontTurned : NodeNo → Ledger → List FrontEvent → WorldState → WorldState → Type 0
FrontTurned node book events old new = (front : FrontState) → front_at node old.fronts ≡ Some front → FrontReaches node front book events old new

pub same_front : (node : NodeNo) (book : Ledger) (old new : WorldState) → front_at node new.fronts ≡ front_at node old.fronts → Untouched node old.directions
    new.directions → FrontTurned node book [] old new
same_front node book old new same untouched front at = record { at = same ∙ at; behind = behind_nothing node old.directions new.directions untouched }

after_more : (front : FrontState) (book : Ledger) (xs ys : List FrontEvent) → front_after front book (xs ++ ys) ≡ front_after (front_after front book xs) book
    ys
after_more front book [] ys = refl
after_more front book (event ∷ xs) ys = after_more (after_event front book event).front book xs ys

outs_more : (front : FrontState) (book : Ledger) (xs ys : List FrontEvent) → front_outs front book (xs ++ ys) ≡ front_outs front book xs ++ front_outs
    (front_after front book xs) book ys
outs_more front book [] ys = refl
outs_more front book (event ∷ xs) ys = ap (λ (outs : List Out). record { items = (after_event front book event).sent } ∷ outs)
    (outs_more (after_event front book event).front book xs ys)

pub front_turned_more : (node : NodeNo) (book : Ledger) (xs ys : List FrontEvent) (one two three : WorldState) → FrontTurned node book xs one two → FrontTurned
    node book ys two three → FrontTurned node book (xs ++ ys) one three
front_turned_more node book xs ys one two three first second front at =
    let f = first front at in
    let s = second (front_after front book xs) f.at in
    record {
      at = s.at ∙ ap (λ (g : FrontState). Some g) (sym (after_more front book xs ys));
      behind = subst (λ (outs : List Out). Behind node outs one.directions three.directions) (sym (outs_more front book xs ys))
          (behind_more node (front_outs front book xs) (front_outs (front_after front book xs) book ys) one.directions two.directions three.directions f.behind
          s.behind);
    }

-- so it is where its directions of these sides stand on
pub record FrontReachesOn (Stands : Side → Type 0) (node : NodeNo) (front : FrontState) (book : Ledger) (events : List FrontEvent)
    (old new : WorldState) : Type 0
  where
    pub at : front_at node new.fronts ≡ Some (front_after front book events)
    pub behind : BehindOn Stands node (front_outs front book events) old.directions new.directions

abbrev pub FrontTurnedOn : (Side → Type 0) → NodeNo → Ledger → List FrontEvent → WorldState → WorldState → Type 0
FrontTurnedOn Stands node book events old new =
    (front : FrontState) → front_at node old.fronts ≡ Some front → FrontReachesOn Stands node front book events old new

pub front_turned_on : (Stands : Side → Type 0) (node : NodeNo) (book : Ledger) (events : List FrontEvent) (old new : WorldState)
    → FrontTurned node book events old new → FrontTurnedOn Stands node book events old new
front_turned_on Stands node book events old new turned front at =
    let r = turned front at in
    record { at = r.at; behind = λ direction h from stands. r.behind direction h from }

front_on_more : (Stands : Side → Type 0) (node : NodeNo) (book : Ledger) (xs ys : List FrontEvent) (one two three : WorldState)
    → FrontTurnedOn Stands node book xs one two → FrontTurnedOn Stands node book ys two three
    → FrontTurnedOn Stands node book (xs ++ ys) one three
front_on_more Stands node book xs ys one two three first second front at =
    let f = first front at in
    let s = second (front_after front book xs) f.at in
    record {
      at = s.at ∙ ap (λ (g : FrontState). Some g) (sym (after_more front book xs ys));
      behind = subst (λ (outs : List Out). BehindOn Stands node outs one.directions three.directions) (sym (outs_more front book xs ys))
          (behind_on_more Stands node (front_outs front book xs) (front_outs (front_after front book xs) book ys) one.directions two.directions three.directions
          f.behind s.behind);
    }

-- ---- one front changed

front_now : (node : NodeNo) (new old : FrontState) (fronts : List FrontAt) → front_at node fronts ≡ Some old → front_at node (with_front node new fronts) ≡
    Some new
front_now node new old [] e = absurd cc
front_now node new old (at ∷ fronts) e = go (is_node at.node node) refl (front_now node new old fronts) e
  where
    go : (b : Bool) → is_node at.node node ≡ b → (front_at node fronts ≡ Some old → front_at node (with_front node new fronts) ≡ Some new) → option_map
        (λ (a : FrontAt). a.front) (cond b (Some at) (find (is_front_at node) fronts)) ≡ Some old
        → option_map (λ (a : FrontAt). a.front) (find (is_front_at node)
        (cond b (record { node = node; front = new } ∷ fronts) (at ∷ with_front node new fronts))) ≡ Some new
    go true is more k = ap (λ (b : Bool). option_map (λ (a : FrontAt). a.front)
        (cond b (Some (record { node = node; front = new })) (find (is_front_at node) fronts))) (node_itself node)
    go false is more k = ap (λ (b : Bool). option_map (λ (a : FrontAt). a.front) (cond b (Some at) (find (is_front_at node) (with_front node new fronts)))) is
        ∙ more k

front_elsewhere : (node : NodeNo) (new : FrontState) (fronts : List FrontAt) (other : NodeNo) → is_node node other ≡ false → front_at other
    (with_front node new fronts) ≡ front_at other fronts
front_elsewhere node new [] other apart = refl
front_elsewhere node new (at ∷ fronts) other apart = go (is_node at.node node) refl (front_elsewhere node new fronts other apart)
  where
    behind : (b : Bool) → front_at other (with_front node new fronts) ≡ front_at other fronts
        → option_map (λ (a : FrontAt). a.front) (cond b (Some at) (find (is_front_at other) (with_front node new fronts))) ≡ option_map
        (λ (a : FrontAt). a.front) (cond b (Some at) (find (is_front_at other) fronts))
    behind true more = refl
    behind false more = more

    go : (b : Bool) → is_node at.node node ≡ b → front_at other (with_front node new fronts) ≡ front_at other fronts
        → option_map (λ (a : FrontAt). a.front) (find (is_front_at other)
        (cond b (record { node = node; front = new } ∷ fronts) (at ∷ with_front node new fronts))) ≡ front_at other (at ∷ fronts)
    go true is more =
        let passed : is_node at.node other ≡ false = ap (λ (m : NodeNo). is_node m other) (same_node at.node node is) ∙ apart in
        ap (λ (b : Bool). option_map (λ (a : FrontAt). a.front) (cond b (Some (record { node = node; front = new })) (find (is_front_at other) fronts))) apart
        ∙ sym (ap (λ (b : Bool). option_map (λ (a : FrontAt). a.front) (cond b (Some at) (find (is_front_at other) fronts))) passed)
    go false is more = behind (is_node at.node other) more

-- ---- an event comes to a node

-- the front is there as it was changed, and what it sends is in flight; or the node has none
abbrev pub Changes : NodeNo → NodeNo → Ledger → FrontEvent → WorldState → Option FrontState → WorldState → Type 0
Changes k node book event old None new = (new.fronts ≡ old.fronts) × (is_node node k ≡ false → Untouched k old.directions new.directions)
Changes k node book event old (Some front) new = (front_at node new.fronts ≡ Some (after_event front book event).front) ×
    (is_node node k ≡ false → front_at k new.fronts ≡ front_at k old.fronts) ×
    (new.directions ≡ with_traffic_from node old.directions (after_event front book event).sent)

module _ (k node : NodeNo) (book : Ledger) (event : FrontEvent) (old new : WorldState) (single : OneOut old.directions) where
  front_there : node ≡ k → (o : Option FrontState) → front_at node old.fronts ≡ o → Changes k node book event old o new → FrontTurned k book (event ∷ []) old
      new
  front_there same None at unchanged front here_is = let no : None ≡ Some front = sym at ∙ ap (λ (n : NodeNo). front_at n old.fronts) same ∙ here_is in absurd
      cc
  front_there same (Some found) at changed front here_is =
      let is : found ≡ front = same_Some found front (sym at ∙ ap (λ (n : NodeNo). front_at n old.fronts) same ∙ here_is) in
      let out : Out = record { items = (after_event front book event).sent } in
      record {
        at = ap (λ (n : NodeNo). front_at n new.fronts) (sym same) ∙ changed.0 ∙ ap (λ (f : FrontState). Some (after_event f book event).front) is;
        behind = subst (Behind k (out ∷ []) old.directions)
            (sym (changed.2 ∙ ap (λ (f : FrontState). with_traffic_from node old.directions (after_event f book event).sent) is ∙ ap
            (λ (n : NodeNo). with_traffic_from n old.directions (after_event front book event).sent) same))
            (behind_one k old.directions out single);
      }

  front_stays : is_node node k ≡ false → (o : Option FrontState) → Changes k node book event old o new → FrontTurned k book [] old new
  front_stays apart None unchanged = same_front k book old new (ap (front_at k) unchanged.0) (unchanged.1 apart)
  front_stays apart (Some found) changed = same_front k book old new (changed.1 apart)
      (subst (Untouched k old.directions) (sym changed.2) (others_traffic k node old.directions (after_event found book event).sent apart))

  pub event_at_front : (o : Option FrontState) → front_at node old.fronts ≡ o → Changes k node book event old o new → FrontTurned k book
      (cond (is_node node k) (event ∷ []) []) old new
  event_at_front o at changed = go (is_node node k) refl
    where
      go : (b : Bool) → is_node node k ≡ b → FrontTurned k book (cond b (event ∷ []) []) old new
      go true is = front_there (same_node node k is) o at changed
      go false is = front_stays is o changed

-- the front is given way to another, which it becomes by the event
pub changed_to : (k node : NodeNo) (book : Ledger) (event : FrontEvent) (old new : WorldState) (front : FrontState) → front_at node old.fronts ≡ Some front →
    new.fronts ≡ with_front node (after_event front book event).front old.fronts
    → new.directions ≡ with_traffic_from node old.directions (after_event front book event).sent → Changes k node book event old (Some front) new
changed_to k node book event old new front at fronts directions = (
  ap (front_at node) fronts ∙ front_now node (after_event front book event).front front old.fronts at,
  λ apart. ap (front_at k) fronts ∙ front_elsewhere node (after_event front book event).front old.fronts k apart,
  directions,
)

-- or stays as it is, and sends nothing
pub stays_so : (k node : NodeNo) (book : Ledger) (event : FrontEvent) (old new : WorldState) (front : FrontState) → front_at node old.fronts ≡ Some front → new
    ≡ old → (after_event front book event).front ≡ front → (after_event front book event).sent ≡ []
    → Changes k node book event old (Some front) new
stays_so k node book event old new front at same as_before silent = (
  ap (λ (w : WorldState). front_at node w.fronts) same ∙ at ∙ ap (λ (f : FrontState). Some f) (sym as_before),
  λ apart. ap (λ (w : WorldState). front_at k w.fronts) same,
  ap (λ (w : WorldState). w.directions) same ∙ ap (with_traffic_from node old.directions) (sym silent),
)

pub mapped_if : (b : Bool) (event : RelayEvent) → cond b (as_front_event event ∷ []) [] ≡ map as_front_event (event_if b event)
mapped_if true event = refl
mapped_if false event = refl

-- what happens to any node, at a front
pub any_event_at_front : (k node : NodeNo) (book : Ledger) (event : RelayEvent) (old new : WorldState) → OneOut old.directions → (o : Option FrontState) →
    front_at node old.fronts ≡ o → Changes k node book (as_front_event event) old o new
    → FrontTurned k book (map as_front_event (event_if (is_node node k) event)) old new
any_event_at_front k node book event old new single o at changed =
    subst (λ (es : List FrontEvent). FrontTurned k book es old new) (mapped_if (is_node node k) event)
    (event_at_front k node book (as_front_event event) old new single o at changed)

-- a relay does something
relay_changes : (k node : NodeNo) (book : Ledger) (event : FrontEvent) (at_relay : RelayEvent) (old new : WorldState) → AtRelay old node at_relay
    (relay_at node old.relays) new → Changes k node book event old None new
relay_changes k node book event at_relay old new turn = go (relay_at node old.relays) turn
  where
    go : (o : Option RelayState) → AtRelay old node at_relay o new → Changes k node book event old None new
    go None same = (ap (λ (w : WorldState). w.fronts) same, λ apart. all_untouched k old.directions new.directions (ap (λ (w : WorldState). w.directions) same))
    go (Some relay) t = (
      ap (λ (w : WorldState). w.fronts) t.next_is,
      λ apart. subst (λ (w : WorldState). Untouched k old.directions w.directions)
          (sym t.next_is) (others_traffic k node old.directions t.sent apart),
    )

-- ---- a message comes

module _ (site : Site) (k : NodeNo) (book : Ledger) (old new : WorldState) (to : NodeNo) (conn : ConnId) (message : Message) (single : OneOut old.directions)
  where
    abbrev comes : RelayEvent
    comes = Received conn message

    at_server_turns : (front : Option FrontState) → front_at to old.fronts ≡ front → ArrivesAtServer old to conn message front new → FrontTurned k book
        (map as_front_event (event_if (is_node to k) comes)) old new
    at_server_turns None at turn = any_event_at_front k to book comes old new single None at (relay_changes k to book (as_front_event comes) comes old new turn)
    at_server_turns (Some front) at same = any_event_at_front k to book comes old new single (Some front) at (go (is_among front.connections conn) same)
      where
        Gets : Bool → Type 0
        Gets b = let turn = cond b (sending_turn (after_arrival front conn message, sent_at_arrival front conn message) book) (silent_turn front book) in
            (front_at to new.fronts ≡ Some turn.front) × (is_node to k ≡ false → front_at k new.fronts ≡ front_at k old.fronts) ×
            (new.directions ≡ with_traffic_from to old.directions turn.sent)

        go : (b : Bool) → new ≡ cond b (after_arrival_at_front old to conn message front) old → Gets b
        go true is = (
          ap (λ (w : WorldState). front_at to w.fronts) is ∙ front_now to (after_arrival front conn message) front old.fronts at,
          λ apart. ap (λ (w : WorldState). front_at k w.fronts) is ∙ front_elsewhere to (after_arrival front conn message) old.fronts k apart,
          ap (λ (w : WorldState). w.directions) is,
        )
        go false is = (
          ap (λ (w : WorldState). front_at to w.fronts) is ∙ at,
          λ apart. ap (λ (w : WorldState). front_at k w.fronts) is,
          ap
              (λ (w : WorldState). w.directions) is,
        )

    pub arrival_at_front : is_front site k ≡ true → (client : Bool) → is_client site to ≡ client → MatchBool client
        (new ≡ after_arrival_at_client old conn message) (ArrivesAtServer old to conn message (front_at to old.fronts) new)
        → FrontTurned k book (map as_front_event (event_if (is_node to k) comes)) old new
    arrival_at_front front_is false client_is turn = at_server_turns (front_at to old.fronts) refl turn
    arrival_at_front front_is true client_is same = go (is_node to k) refl
      where
        go : (b : Bool) → is_node to k ≡ b → FrontTurned k book (map as_front_event (event_if b comes)) old new
        go true is = absurd (both_ways (is_client site k) (server_no_client (kind_at site k) (or_right (is_relay site k) (is_front site k) front_is))
            (ap (is_client site) (sym (same_node to k is)) ∙ client_is))
        go false is = same_front k book old new (ap (λ (w : WorldState). front_at k w.fronts) same)
            (all_untouched k old.directions new.directions (ap (λ (w : WorldState). w.directions) same))

-- ---- connections end

loss_at_front : (k : NodeNo) (book : Ledger) (old new : WorldState) (loss : Loss) → OneOut old.directions → (front : Option FrontState) → front_at loss.node
    old.fronts ≡ front → LearnsLoss old loss front new
    → FrontTurned k book (map as_front_event (event_if (is_node loss.node k) (Lost loss.conn))) old new
loss_at_front k book old new loss single None at turn = any_event_at_front k loss.node book (Lost loss.conn) old new single None at
    (relay_changes k loss.node book (as_front_event (Lost loss.conn)) (Lost loss.conn) old new turn)
loss_at_front k book old new loss single (Some front) at same =
    any_event_at_front k loss.node book (Lost loss.conn) old new single (Some front) at
    (changed_to k loss.node book (as_front_event (Lost loss.conn)) old new front at (ap (λ (w : WorldState). w.fronts) same)
    (ap (λ (w : WorldState). w.directions) same))

map_both : (xs ys : List RelayEvent) → map as_front_event xs ++ map as_front_event ys ≡ map as_front_event (xs ++ ys)
map_both [] ys = refl
map_both (x ∷ xs) ys = ap (λ (es : List FrontEvent). as_front_event x ∷ es) (map_both xs ys)

-- one after the other
pub both_at_front : (k : NodeNo) (book : Ledger) (xs ys : List RelayEvent) (one two three : WorldState) → FrontTurned k book (map as_front_event xs) one two →
    FrontTurned k book (map as_front_event ys) two three → FrontTurned k book (map as_front_event (xs ++ ys)) one three
both_at_front k book xs ys one two three first second =
    subst (λ (es : List FrontEvent). FrontTurned k book es one three) (map_both xs ys)
    (front_turned_more k book (map as_front_event xs) (map as_front_event ys) one two three first second)

pub both_on_front : (Stands : Side → Type 0) (k : NodeNo) (book : Ledger) (xs ys : List RelayEvent) (one two three : WorldState)
    → FrontTurnedOn Stands k book (map as_front_event xs) one two → FrontTurnedOn Stands k book (map as_front_event ys) two three
    → FrontTurnedOn Stands k book (map as_front_event (xs ++ ys)) one three
both_on_front Stands k book xs ys one two three first second =
    subst (λ (es : List FrontEvent). FrontTurnedOn Stands k book es one three) (map_both xs ys)
    (front_on_more Stands k book (map as_front_event xs) (map as_front_event ys) one two three first second)

pub losses_at_front : (k : NodeNo) (book : Ledger) {losses : List Loss} {old new : WorldState} {later : List LossAt} → LearnLosses losses old later new →
    OneOut old.directions → FrontTurned k book (map as_front_event (learned_by k losses)) old new
losses_at_front k book (all_know {w = w}) single = same_front k book w w refl (all_untouched k w.directions w.directions refl)
losses_at_front k book {new = new} (learns {loss} {losses} {w} {next} learned rest) single =
    both_at_front k book (event_if (is_node loss.node k) (Lost loss.conn)) (learned_by k losses) w next new
    (loss_at_front k book w next loss single (front_at loss.node w.fronts) refl learned)
    (losses_at_front k book rest (loss_one_out w next loss (front_at loss.node w.fronts) learned single))

abbrev pub anew : RelayEvent
anew = Rattle.relay_core.specs.declared.run.RelayEvent.TheVariants.Restart

pub crash_at_front : (k node : NodeNo) (book : Ledger) (old : WorldState) → OneOut (directions_left old node).directions → FrontTurned k book
    (map as_front_event (event_if (is_node node k) anew)) (directions_left old node) (after_crash old node)
crash_at_front k node book old single = any_event_at_front k node book anew (directions_left old node) (after_crash old node) single
    (front_at node old.fronts) refl (go (front_at node old.fronts) refl)
  where
    go : (o : Option FrontState) → front_at node old.fronts ≡ o → Changes k node book (as_front_event anew) (directions_left old node) o
        (after_crash old node)
    go None e = (
      ap (with_restart_of_front node old.fronts) e,
      λ apart. all_untouched k (directions_left old node).directions
          (after_crash old node).directions refl,
    )
    go (Some front) e = changed_to k node book (as_front_event anew) (directions_left old node) (after_crash old node) front e
        (ap (with_restart_of_front node old.fronts) e) refl

-- ---- a connection comes up

abbrev comes_up : NodeNo → ConnId → RelayEvent
comes_up peer conn = Rattle.relay_core.specs.declared.run.RelayEvent.TheVariants.Up peer conn

pub link_at_front : (k node peer : NodeNo) (book : Ledger) (conn : ConnId) (old new : WorldState) → OneOut old.directions → new.fronts ≡ with_connection_at
    node conn old.fronts → new.directions ≡ old.directions → FrontTurned k book (map as_front_event (event_if (is_node node k) (comes_up peer conn))) old new
link_at_front k node peer book conn old new single linked same = any_event_at_front k node book (comes_up peer conn) old new single (front_at node old.fronts)
    refl (go (front_at node old.fronts) refl linked)
  where
    go : (o : Option FrontState) → front_at node old.fronts ≡ o → new.fronts ≡ with_connection_of node conn old.fronts o → Changes k node book
        (as_front_event (comes_up peer conn)) old o new
    go None e linked_is = (linked_is, λ apart. all_untouched k old.directions new.directions same)
    go (Some front) e linked_is = changed_to k node book (as_front_event (comes_up peer conn)) old new front e linked_is same
