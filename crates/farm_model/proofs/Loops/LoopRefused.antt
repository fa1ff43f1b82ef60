-- A request in which a relay finds itself is answered DIAMETER_LOOP_DETECTED where it came from, and nothing else happens.
use Rattle.std.proofs.Common.{◌≡◌, ℕ, Bool, true, false, List, Option, Some, None, refl, sym, subst, ap, ◌∙◌}
use Rattle.std.specs.Prelude.{MatchOption, option_map}
use Rattle.std.specs.Option.{option_and_then}
use Rattle.std.proofs.lemmas.Bool.{MatchBool-at_true, MatchBool-at_false}
use Rattle.dia_base.specs.declared.number.ConnId.{ConnId}
use Rattle.dia_base.specs.declared.number.NodeNo.{NodeNo}
use Rattle.dia_message.specs.declared.message.Message.{Message}
use Rattle.dia_message.specs.Traffic.{Traffic}
use Rattle.cc_view.specs.declared.code.ResultCode.TheVariants.{LoopDetected}
use Rattle.cc_view.specs.Answer.{refusal_of}
use Rattle.cc_view.specs.Refusal.{refusal_with}
use Rattle.front_core.specs.FrontState.{FrontState}
use Rattle.relay_peers.specs.declared.peers.LinkedPeer.{LinkedPeer}
use Rattle.relay_peers.specs.PeerTable.{peer_numbered}
use Rattle.relay_routes.specs.Routing.{IsLoop}
use Rattle.relay_core.specs.declared.node.RelayNode.{RelayNode}
use Rattle.relay_core.specs.declared.run.RelayEvent.TheVariants.{Received}
use Rattle.relay_core.specs.RelayRun.{IsIdle}
use Rattle.relay_core.specs.RelayState.{RelayState, peer_on}
use Rattle.relay_core.specs.RelayStep.{OnRequest, OnAnswer, OnMessage, refusal_to}
use Rattle.farm_law.specs.Lists.{Has}
use Rattle.farm_base.specs.declared.site.Site.{Site}
use Rattle.farm_model.specs.declared.state.Direction.{Direction}
use Rattle.farm_model.specs.declared.state.FrontAt.{FrontAt}
use Rattle.farm_model.specs.declared.state.RelayAt.{RelayAt}
use Rattle.farm_base.specs.declared.step.Step.{Step}
use Rattle.farm_base.specs.declared.step.Step.TheVariants.{Deliver}
use Rattle.farm_model.specs.Arrival.{AtRelay, ArrivesAtServer, RelayTurn, after_arrival_at_client, after_relay_turn}
use Rattle.farm_model.specs.SoundSite.{IsSound}
use Rattle.farm_model.specs.FarmStep.{flight_at, Flight, Delivers, FarmStep}
use Rattle.farm_base.specs.Nodes.{is_node, is_relay, means_front, kind_at, is_linked, name_in, name_at}
use Rattle.farm_model.specs.Promise.{IsNamed}
use Rattle.farm_model.specs.Run.{Transition}
use Rattle.farm_model.specs.World.{is_heard, Ends, WorldState, with_message_from, is_front_at, front_at, relay_at}
use Rattle.farm_model.proofs.Lists.Finding.{find_none}
use Rattle.farm_model.proofs.Wiring.KnowsPeers.{KnowsPeers}
use Rattle.farm_model.proofs.Wiring.Linked.{linked_turned}
use Rattle.farm_model.proofs.Wiring.LinkedPeers.{peer_is_listed}
use Rattle.farm_model.proofs.Lists.Numbering.{same_node}
use Rattle.farm_model.proofs.Wiring.OneKind.{relay_no_client, relay_no_front}
use Rattle.farm_model.proofs.Wiring.RelayPlaces.{relay_there, with_relay_same}
use Rattle.farm_model.proofs.Wiring.SamePeers.{FlightStands, flight_stands, flight_side}
use Rattle.farm_model.proofs.Wiring.Wired.{IsWired, FrontIsWired}
use Rattle.farm_model.proofs.Wiring.WiredLemmas.{relay_wired}

-- the law of relays
abbrev pub LoopsAreRefused : Type 0
LoopsAreRefused = (relay : RelayState) (conn : ConnId) (sender : List ℕ) (request : Message) (sent : Traffic) (next : RelayState) → IsLoop relay.node.name
    request.body → OnRequest relay conn sender request sent next →
    (sent ≡ refusal_to relay.node conn request (refusal_with LoopDetected)) × (next ≡ relay)

-- ---- a node is of one kind

-- no front stands where the site has a relay
pub no_front_at : (site : Site) (node : NodeNo) (fronts : List FrontAt) → is_relay site node ≡ true → ((at : FrontAt) → Has at fronts → FrontIsWired site at) →
    front_at node fronts ≡ None
no_front_at site node fronts relay wired = ap (option_map (λ (at : FrontAt). at.front))
    (find_none (is_front_at node) fronts (λ at h. other at (wired at h).is_front (is_node at.node node) refl))
  where
    other : (at : FrontAt) → means_front (kind_at site at.node) ≡ true → (b : Bool) → is_node at.node node ≡ b → b ≡ false
    other at front false e = refl
    other at front true e =
        let front_here : means_front (kind_at site node) ≡ true = subst (λ (n : NodeNo). means_front (kind_at site n) ≡ true) (same_node at.node node e) front
        in
        sym front_here ∙ relay_no_front (kind_at site node) relay

-- ---- the relay's turn

loop_at_relay : LoopsAreRefused → (w next : WorldState) (node : NodeNo) (relay : RelayState) (conn : ConnId) (message : Message) (sender : LinkedPeer) →
    relay_at node w.relays ≡ Some relay → peer_on relay.node conn ≡ Some sender → message.header.request ≡ true
    → IsLoop relay.node.name message.body → RelayTurn w node relay (Received conn message) next
    → next ≡ record w {
      directions = with_message_from node w.directions conn (refusal_of relay.node.name relay.node.realm message (refusal_with LoopDetected));
    }
loop_at_relay law w next node relay conn message sender at known request loop turn =
    let came : OnMessage relay conn sender.name message turn.sent turn.after = subst
    (λ (o : Option LinkedPeer). MatchOption o (IsIdle relay turn.sent turn.after) (λ s. OnMessage relay conn s.name message turn.sent turn.after)) known
    turn.turn in
    let asked = MatchBool-at_true (OnRequest relay conn sender.name message turn.sent turn.after) (OnAnswer relay conn message turn.sent turn.after) request
    came in
    let says = law relay conn sender.name message turn.sent turn.after loop asked in
    let sent : Traffic = refusal_to relay.node conn message (refusal_with LoopDetected) in
    turn.next_is
    ∙ ap (λ (s : Traffic). after_relay_turn w node s turn.after) says.0
    ∙ ap (λ (r : RelayState). after_relay_turn w node sent r) says.1
    ∙ ap (λ (relays : List RelayAt). record w {
      directions = with_message_from node w.directions conn
          (refusal_of relay.node.name relay.node.realm message (refusal_with LoopDetected));
      relays = relays;
    }) (with_relay_same node relay w.relays at)

pub name_is : {site : Site} {node : NodeNo} {name : List ℕ} → IsNamed site node name → name_at site node ≡ name
name_is named = ap name_in named.at_place ∙ named.called

-- a message of a direction that stands has a sender that the relay knows
pub sender_known : {site : Site} {ends : Ends} {w : WorldState} {from node : NodeNo} {relay : RelayState} {flight : Flight} → IsSound site → IsWired site
    ends w → KnowsPeers site w → FlightStands (is_heard from node) w.directions from node flight → relay_at node w.relays ≡ Some relay
    → (p : LinkedPeer) × (peer_on relay.node flight.conn ≡ Some p)
sender_known {site} {ends} {w} {from} {node} {relay} {flight} checked wired known stands at =
    let direction = stands.direction in
    let on = known.knows node relay flight.conn from at (flight_side stands) in
    let linked = ap (λ (n : NodeNo). is_linked site n node) (sym stands.from_is) ∙ ap (λ (n : NodeNo). is_linked site direction.from n) (sym stands.to_is) ∙
    (wired.directions direction stands.among).linked in
    let listed = peer_is_listed checked (relay_wired wired.relays at) from (linked_turned site from node linked) in
    (listed.0, ap (option_and_then (peer_numbered relay.node.peers.linked)) on ∙ listed.1)

-- ---- the whole

-- the answer joins what is in flight, and nothing else changes
abbrev pub AnswersLoop : Site → Transition → Type 0
AnswersLoop site t = (from node : NodeNo) (place : ℕ) (conn : ConnId) (message : Message) (directions : List Direction) (name : List ℕ) → t.step ≡ Deliver from
    node place →
    flight_at t.before.directions from node place ≡ Some (record { conn = conn; message = message; directions = directions }) → message.header.request ≡ true →
    is_relay site node ≡ true → IsNamed site node name → IsLoop name message.body →
    t.after ≡ record t.before { directions = with_message_from node directions conn (refusal_of name site.realm message (refusal_with LoopDetected)) }

pub loop_refused : {site : Site} {ends : Ends} → LoopsAreRefused → IsSound site → (t : Transition) → IsWired site ends t.before → KnowsPeers site t.before →
    FarmStep site t.before t.step t.applied t.losses t.after → AnswersLoop site t
loop_refused {site} {ends} law checked t wired known made from node place conn message directions name step_is flies request relay_is named loop =
    let w = t.before in
    let flown : WorldState = record w { directions = directions } in
    let flight : Flight = record { conn = conn; message = message; directions = directions } in
    let delivered = (subst (λ (s : Step). FarmStep site w s t.applied t.losses t.after) step_is made).0 in
    let arrived = (subst (λ (o : Option Flight). Delivers site w node o t.applied t.after) flies delivered).1 in
    let at_server = MatchBool-at_false (t.after ≡ after_arrival_at_client flown conn message)
    (ArrivesAtServer flown node conn message (front_at node w.fronts) t.after) (relay_no_client (kind_at site node) relay_is) arrived in
    let there = relay_there node w.relays (known.present node relay_is) in
    let relay = there.0 in
    let relay_turn = subst (λ (o : Option FrontState). ArrivesAtServer flown node conn message o t.after)
    (no_front_at site node w.fronts relay_is wired.fronts) at_server in
    let turn : RelayTurn flown node relay (Received conn message) t.after = subst
    (λ (o : Option RelayState). AtRelay flown node (Received conn message) o t.after) there.1 relay_turn in
    let is_wired = relay_wired wired.relays there.1 in
    let called : relay.node.name ≡ name = ap (λ (n : RelayNode). n.name) is_wired.node_is ∙ name_is named in
    let realm : relay.node.realm ≡ site.realm = ap (λ (n : RelayNode). n.realm) is_wired.node_is in
    let sender = sender_known checked wired known (flight_stands w.directions from node place flight flies) there.1 in
    let loops : IsLoop relay.node.name message.body = subst (λ (n : List ℕ). IsLoop n message.body) (sym called) loop in
    loop_at_relay law flown t.after node relay conn message sender.0 there.1 sender.1 request loops turn
    ∙ ap (λ (n : List ℕ). record w { directions = with_message_from node directions conn (refusal_of n relay.node.realm message (refusal_with LoopDetected)) })
    called
    ∙ ap (λ (r : List ℕ). record w { directions = with_message_from node directions conn (refusal_of name r message (refusal_with LoopDetected)) }) realm
