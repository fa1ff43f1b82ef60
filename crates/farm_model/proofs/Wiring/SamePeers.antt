-- What relays know of their peers stays where directions change in their messages alone, and relays in what they await answers for.
use Rattle.std.proofs.Common.{◌≡◌, ℕ, Bool, true, false, List, Option, Some, None, inl, inr, refl, sym, subst, ap, ◌∙◌}
use Rattle.std.specs.Prelude.{MatchBool, MatchOption, remove, slice_get}
use Rattle.std.specs.List.{find, list_any}
use Rattle.std.proofs.lemmas.Bool.{and_parts}
use Rattle.dia_base.specs.declared.number.ConnId.{ConnId}
use Rattle.dia_base.specs.declared.number.NodeNo.{NodeNo}
use Rattle.dia_base.proofs.Finding.{found_passes}
use Rattle.dia_message.specs.declared.message.Message.{Message}
use Rattle.dia_message.specs.Traffic.{Traffic}
use Rattle.relay_peers.specs.declared.peers.Link.{Link}
use Rattle.relay_peers.specs.declared.peers.LinkedPeer.{LinkedPeer}
use Rattle.relay_peers.specs.PeerTable.{peer_in}
use Rattle.relay_core.specs.declared.run.RelayEvent.TheVariants.{Received}
use Rattle.relay_core.specs.RelayRun.{IsIdle, OnEvent}
use Rattle.relay_core.specs.RelayState.{RelayState, peer_on}
use Rattle.relay_core.specs.RelayStep.{OnRequest, OnAnswer, OnMessage, refused, forwarded, sent_back, dropped, ignored}
use Rattle.farm_law.specs.Lists.{Has}
use Rattle.farm_base.specs.declared.site.Site.{Site}
use Rattle.farm_model.specs.declared.state.Direction.{Direction}
use Rattle.farm_model.specs.declared.state.RelayAt.{RelayAt}
use Rattle.farm_model.specs.FarmStep.{Flight, flight_of, flight_in, flight_where, flight_at, loss_at}
use Rattle.farm_base.specs.Lists.{replace_first}
use Rattle.farm_model.specs.Loss.{Loss}
use Rattle.farm_model.specs.World.{WorldState, is_between, is_heard, is_relay_at, with_relay, relay_at}
use Rattle.farm_model.proofs.Lists.Among.{Has-map}
use Rattle.farm_model.proofs.Lists.Finding.{Has-found}
use Rattle.farm_model.proofs.Wiring.KnowsPeers.{KnowsPeersBut}
use Rattle.farm_model.proofs.Wiring.RelayPlaces.{relay_after_change, present_after_change}
use Rattle.farm_model.proofs.Lists.Replacing.{map_replaced}
use Rattle.farm_model.proofs.Wiring.Sides.{Side, side_of, sides}
use Rattle.farm_model.proofs.Wiring.WorldLemmas.{direction_nodes, heard_between}

-- ---- directions that change in their messages

-- a message that was in flight, on a direction that stands
pub record FlightStands (test : Direction → Bool) (directions : List Direction) (from to : NodeNo) (flight : Flight) : Type 0 where
  pub same : sides flight.directions ≡ sides directions
  pub direction : Direction
  pub among : Has direction directions
  pub conn_is : direction.conn ≡ flight.conn
  pub from_is : direction.from ≡ from
  pub to_is : direction.to ≡ to
  pub passes : test direction ≡ true

pub flight_stands_where : (test : Direction → Bool) (directions : List Direction) (from to : NodeNo) (place : ℕ) (flight : Flight) →
    ((direction : Direction) → test direction ≡ true → is_between from to direction ≡ true) → flight_where test directions place ≡ Some flight → FlightStands
    test directions from to flight
flight_stands_where test directions from to place flight between e = go (find test directions) refl e
  where
    taken : (direction : Direction) → find test directions ≡ Some direction → (found : Option Message) → flight_of test directions place direction found ≡ Some
        flight → FlightStands test directions from to flight
    taken direction f None k = absurd cc
    taken direction f (Some message) k =
        let rest = replace_first test (record direction { messages = remove direction.messages place }) directions in
        let is : record { conn = direction.conn; message = message; directions = rest } ≡ flight = cc in
        let nodes = direction_nodes from to direction (between direction (found_passes test directions direction f)) in
        subst (FlightStands test directions from to) is (record {
          same = map_replaced side_of test direction (record direction { messages = remove direction.messages place }) directions f refl;
          direction = direction;
          among = Has-found test directions f;
          conn_is = refl;
          from_is = nodes.0;
          to_is = nodes.1;
          passes = found_passes test directions direction f;
        })

    go : (found : Option Direction) → find test directions ≡ found → flight_in test directions place found ≡ Some flight → FlightStands test
        directions from to flight
    go None f k = absurd cc
    go (Some direction) f k = taken direction f (slice_get direction.messages place) k

-- a message that is delivered, and one that is lost
pub flight_stands : (directions : List Direction) (from to : NodeNo) (place : ℕ) (flight : Flight) → flight_at directions from to place ≡ Some flight →
    FlightStands (is_heard from to) directions from to flight
flight_stands directions from to place flight e = flight_stands_where (is_heard from to) directions from to place flight (heard_between from to) e

pub loss_stands : (directions : List Direction) (from to : NodeNo) (place : ℕ) (flight : Flight) → loss_at directions from to place ≡ Some flight →
    FlightStands (is_between from to) directions from to flight
loss_stands directions from to place flight e = flight_stands_where (is_between from to) directions from to place flight (λ direction b. b) e

-- the node that a message is delivered to knows the connection
pub flight_side : {directions : List Direction} {from to : NodeNo} {flight : Flight} → FlightStands (is_heard from to) directions from to flight → Has
    (flight.conn, from, to, true) (sides directions)
flight_side {directions} {from} {to} {flight} s =
    let known : s.direction.known ≡ true = (and_parts (is_between from to s.direction) s.direction.known s.passes).1 in
    subst (λ (x : Side). Has x (sides directions))
    (ap (λ (c : ConnId). (c, s.direction.from, s.direction.to, s.direction.known)) s.conn_is
    ∙ ap (λ (n : NodeNo). (flight.conn, n, s.direction.to, s.direction.known)) s.from_is
    ∙ ap (λ (n : NodeNo). (flight.conn, from, n, s.direction.known)) s.to_is ∙ ap (λ (b : Bool). (flight.conn, from, to, b)) known)
    (Has-map side_of s.among)

-- ---- relays whose links stay

pub record SameLinks (old new : List RelayAt) : Type 0 where
  pub same : (node : NodeNo) (found : RelayState) → relay_at node new ≡ Some found → (relay : RelayState) × (relay_at node old ≡ Some relay) ×
      (found.node.peers.links ≡ relay.node.peers.links)
  pub present : (node : NodeNo) → list_any (is_relay_at node) new ≡ list_any (is_relay_at node) old

pub same_relays : (relays : List RelayAt) → SameLinks relays relays
same_relays relays = record { same = λ node found e. (found, e, refl); present = λ node. refl }

-- one relay changed, but not its links
pub same_links_after : (node : NodeNo) (relay after : RelayState) (relays : List RelayAt) → relay_at node relays ≡ Some relay → after.node.peers.links ≡
    relay.node.peers.links → SameLinks relays (with_relay node after relays)
same_links_after node relay after relays at links = record {
  same = λ other found e. elim (relay_after_change node after relays other found e) [
    | inl is ↦ (relay, subst (λ (n : NodeNo). relay_at n relays ≡ Some relay) (sym is.0) at, ap (λ (r : RelayState). r.node.peers.links) is.1 ∙ links)
    | inr is ↦ (found, is.1, refl)
  ];
  present = present_after_change node after relays;
}

-- ---- a message changes no links

request_same_node : {relay next : RelayState} {conn : ConnId} {sender : List ℕ} {request : Message} {sent : Traffic} → OnRequest relay conn sender request sent
    next → next.node ≡ relay.node
request_same_node (refused refusal e) = refl
request_same_node (forwarded to hop rows count e free is) = refl

answer_same_node : {relay next : RelayState} {conn : ConnId} {answer : Message} {sent : Traffic} → OnAnswer relay conn answer sent next → next.node ≡ relay.node
answer_same_node (sent_back held origin rows e f is) = refl
answer_same_node (dropped held rows e f is) = refl
answer_same_node (ignored e) = refl

message_same_node : (relay next : RelayState) (conn : ConnId) (sender : List ℕ) (message : Message) (sent : Traffic) → OnMessage relay conn sender message sent
    next → next.node ≡ relay.node
message_same_node relay next conn sender message sent h = go message.header.request h
  where
    go : (b : Bool) → MatchBool b (OnRequest relay conn sender message sent next) (OnAnswer relay conn message sent next) → next.node ≡ relay.node
    go true k = request_same_node k
    go false k = answer_same_node k

pub received_same_node : (relay next : RelayState) (conn : ConnId) (message : Message) (sent : Traffic) → OnEvent relay (Received conn message) sent next →
    next.node ≡ relay.node
received_same_node relay next conn message sent h = go (peer_on relay.node conn) h
  where
    go : (o : Option LinkedPeer) → MatchOption o (IsIdle relay sent next) (λ sender. OnMessage relay conn sender.name message sent next) → next.node ≡
        relay.node
    go None k = ap (λ (r : RelayState). r.node) k.1
    go (Some sender) k = message_same_node relay next conn sender.name message sent k

-- ---- what relays know stays

pub same_knows : {site : Site} {losses : List Loss} (old new : WorldState) → sides new.directions ≡ sides old.directions → SameLinks old.relays new.relays →
    KnowsPeersBut site losses old → KnowsPeersBut site losses new
same_knows {site} {losses} old new directions relays known = record {
  knows = λ node relay conn from e h.
      let before = relays.same node relay e in
      ap (λ (links : List Link). peer_in links conn) before.2 ∙ known.knows node before.0 conn from before.1
      (subst (λ (s : List Side). Has (conn, from, node, true) s) directions h);
  stands = λ node relay link e h.
      let before = relays.same node relay e in
      elim (known.stands node before.0 link before.1 (subst (λ (links : List Link). Has link links) before.2 h)) [
        | inl stood ↦ inl (subst (λ (s : List Side). Has (link.conn, link.peer, node, true) s) (sym directions) stood)
        | inr lost ↦ inr lost
      ];
  present = λ node is. relays.present node ∙ known.present node is;
  ended = λ loss from heard h stood. known.ended loss from heard h
      (subst (λ (s : List Side). Has (loss.conn, from, loss.node, heard) s) directions stood);
}
