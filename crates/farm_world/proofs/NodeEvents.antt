-- What relays and fronts of the farm do at events, said as the farm's model says it.
use Rattle.std.proofs.Common.{◌≡◌, Bool, true, false, Option, Some, None}
use Rattle.std.specs.Prelude.{◌≢◌, [], Result, Ok, Err, MatchOption, MatchBool}
use Rattle.dia_base.specs.declared.number.ConnId.{ConnId}
use Rattle.dia_base.specs.declared.number.NodeNo.{NodeNo}
use Rattle.dia_message.specs.declared.message.Message.{Message}
use Rattle.dia_message.specs.Traffic.{Traffic}
use Rattle.farm_node.specs.Events.{NodeEvent as event}
use Rattle.farm_node.specs.Nodes.{OnRelayEvent, OnFrontEvent, Does, Refuses, error_of_relay}
use Rattle.farm_node.specs.declared.error.NodeError.{NodeError}
use Rattle.farm_node.specs.declared.error.NodeError.TheVariants.{OutOfMemory, UnknownConn}
use Rattle.front_core.specs.FrontState.{FrontState, is_among}
use Rattle.front_core.specs.FrontStep.{with_connection, without_connection, after_arrival, sent_at_arrival}
use Rattle.relay_core.specs.declared.error.RelayError.{RelayError}
use Rattle.relay_core.specs.declared.run.RelayEvent.TheVariants.{Received, Lost}
use Rattle.relay_core.specs.Connecting.{up_fault, after_up}
use Rattle.relay_core.specs.Failover.{OnConnLost}
use Rattle.relay_core.specs.RelayRun.{OnEvent, IsIdle}
use Rattle.relay_core.specs.RelayState.{RelayState, peer_on}
use Rattle.relay_core.specs.RelayStep.{OnMessage}
use Rattle.relay_peers.specs.declared.peers.LinkedPeer.{LinkedPeer}
use Rattle.relay_peers.specs.PeerTable.{peer_in}
use Rattle.farm_model.specs.FarmStep.{after_up_by}
use Rattle.farm_world.specs.NodeEvents.{Reacts}

-- ---- where memory is not wanted, the event is done

done : {S : Type 0} (old : S) (Step : Traffic → S → Type 0) (sent : Traffic) (outcome : Result (Unit {0}) NodeError) (new : S) → outcome ≢ Err OutOfMemory → Does old Step sent outcome new → Step sent new
done old Step sent (Ok it) new memory does = does
done old Step sent (Err error) new memory refuses = absurd (memory refuses.told)

-- ---- a relay

pub linked : (relay : RelayState) (local peer : NodeNo) (conn : ConnId) (sent : Traffic) (next : RelayState) → Reacts OnRelayEvent relay (event.up local peer conn) sent next → next ≡ after_up_by relay peer conn (up_fault relay peer conn)
linked relay local peer conn sent next (outcome, memory, does) = go (up_fault relay peer conn) does
  where
    go : (o : Option RelayError) → MatchOption o (Does relay (λ out new. (out ≡ []) × (new ≡ after_up relay peer conn)) sent outcome next) (λ error. Refuses relay (error_of_relay error) sent outcome next) → next ≡ after_up_by relay peer conn o
    go None h = (done relay (λ out new. (out ≡ []) × (new ≡ after_up relay peer conn)) sent outcome next memory h).1
    go (Some fault) h = h.same

pub received : (relay : RelayState) (conn : ConnId) (message : Message) (sent : Traffic) (next : RelayState) → Reacts OnRelayEvent relay (event.message conn message) sent next → OnEvent relay (Received conn message) sent next
received relay conn message sent next (outcome, memory, does) = go (peer_on relay.node conn) does
  where
    go : (o : Option LinkedPeer) → MatchOption o (Refuses relay (UnknownConn conn) sent outcome next) (λ sender. Does relay (λ out new. OnMessage relay conn sender.name message out new) sent outcome next)
        → MatchOption o (IsIdle relay sent next) (λ sender. OnMessage relay conn sender.name message sent next)
    go None h = (h.silent, h.same)
    go (Some sender) h = done relay (λ out new. OnMessage relay conn sender.name message out new) sent outcome next memory h

pub lost : (relay : RelayState) (conn : ConnId) (sent : Traffic) (next : RelayState) → Reacts OnRelayEvent relay (event.lost conn) sent next → OnEvent relay (Lost conn) sent next
lost relay conn sent next (outcome, memory, does) = go (peer_in relay.node.peers.links conn) does
  where
    go : (o : Option NodeNo) → MatchOption o (Refuses relay (UnknownConn conn) sent outcome next) (λ peer. Does relay (λ out new. OnConnLost relay conn out new) sent outcome next)
        → MatchOption o (IsIdle relay sent next) (λ peer. OnConnLost relay conn sent next)
    go None h = (h.silent, h.same)
    go (Some peer) h = done relay (λ out new. OnConnLost relay conn out new) sent outcome next memory h

-- ---- a front

pub connected : (front : FrontState) (local peer : NodeNo) (conn : ConnId) (sent : Traffic) (next : FrontState) → Reacts OnFrontEvent front (event.up local peer conn) sent next → next ≡ with_connection front conn
connected front local peer conn sent next (outcome, memory, does) = (done front (λ out new. (out ≡ []) × (new ≡ with_connection front conn)) sent outcome next memory does).1

pub arrived : (front : FrontState) (conn : ConnId) (message : Message) (sent : Traffic) (next : FrontState) → Reacts OnFrontEvent front (event.message conn message) sent next
    → MatchBool (is_among front.connections conn) ((sent ≡ sent_at_arrival front conn message) × (next ≡ after_arrival front conn message)) ((sent ≡ []) × (next ≡ front))
arrived front conn message sent next (outcome, memory, does) = go (is_among front.connections conn) does
  where
    go : (b : Bool) → MatchBool b (Does front (λ out new. (out ≡ sent_at_arrival front conn message) × (new ≡ after_arrival front conn message)) sent outcome next) (Refuses front (UnknownConn conn) sent outcome next)
        → MatchBool b ((sent ≡ sent_at_arrival front conn message) × (next ≡ after_arrival front conn message)) ((sent ≡ []) × (next ≡ front))
    go true h = done front (λ out new. (out ≡ sent_at_arrival front conn message) × (new ≡ after_arrival front conn message)) sent outcome next memory h
    go false h = (h.silent, h.same)

pub forgotten : (front : FrontState) (conn : ConnId) (sent : Traffic) (next : FrontState) → Reacts OnFrontEvent front (event.lost conn) sent next → (sent ≡ []) × (next ≡ without_connection front conn)
forgotten front conn sent next (outcome, memory, does) = (does.silent, does.is)
