-- What a relay and a front do as nodes: the step of the crate that each is of, and why they refuse.
use Rattle.std.specs.Prelude.{◌≡◌, [], Bool, true, false, Result, Ok, Err, MatchBool, MatchOption}
use Rattle.dia_message.specs.Traffic.{Traffic}
use Rattle.farm_node.specs.Events.{NodeEvent}
use Rattle.farm_node.specs.Events.{up, message, leaving, lost, tick, wake}
use Rattle.farm_node.specs.declared.error.NodeError.{NodeError}
use Rattle.farm_node.specs.declared.error.NodeError.TheVariants as fault
use Rattle.front_core.specs.declared.error.FrontError.{FrontError}
use Rattle.front_core.specs.declared.error.FrontError.TheVariants as of_front
use Rattle.front_core.specs.FrontState.{FrontState, is_among}
use Rattle.front_core.specs.FrontStep.{with_connection, without_connection, after_arrival, sent_at_arrival}
use Rattle.relay_peers.specs.PeerTable.{peer_in, with_staying, without_conn}
use Rattle.relay_core.specs.declared.error.RelayError.{RelayError}
use Rattle.relay_core.specs.declared.error.RelayError.TheVariants as of_relay
use Rattle.relay_core.specs.declared.matching.MatchingRelay.{MatchingRelay}
use Rattle.relay_core.specs.declared.parting.PartingRelay.{PartingRelay}
use Rattle.relay_core.specs.AnswerMatching.{is_dropped, mismatched_after}
use Rattle.relay_core.specs.Connecting.{up_fault, after_up}
use Rattle.relay_core.specs.Failover.{OnConnLost}
use Rattle.relay_core.specs.RelayState.{RelayState, peer_on}
use Rattle.relay_core.specs.RelayStep.{OnMessage}
use Rattle.relay_core.specs.Staying.{OnConnLostAmong, OnMessageAmong}

abbrev pub error_of_relay : RelayError → NodeError
error_of_relay of_relay.OutOfMemory = fault.OutOfMemory
error_of_relay (of_relay.UnknownConn conn) = fault.UnknownConn conn
error_of_relay (of_relay.PeerUp peer) = fault.PeerUp peer
error_of_relay (of_relay.UnknownPeer peer) = fault.UnknownPeer peer

abbrev pub error_of_front : FrontError → NodeError
error_of_front of_front.OutOfMemory = fault.OutOfMemory
error_of_front (of_front.UnknownConn conn) = fault.UnknownConn conn

-- ---- how an event ends

-- It sends nothing, is as it was, and says this.
pub record Refuses {S : Type 0} (old : S) (error : NodeError) (sent : Traffic) (outcome : Result (Unit {0}) NodeError) (new : S) : Type 0 where
  pub silent : sent ≡ []
  pub told : outcome ≡ Err error
  pub same : new ≡ old

-- It does this, or, for want of memory, nothing.
abbrev pub Does : {S : Type 0} → S → (Traffic → S → Type 0) → Traffic → Result (Unit {0}) NodeError → S → Type 0
Does old Step sent (Ok done) new = Step sent new
Does old Step sent (Err error) new = Refuses old fault.OutOfMemory sent (Err error) new

-- It sends nothing, and is this then, without fail.
pub record Becomes {S : Type 0} (next : S) (sent : Traffic) (outcome : Result (Unit {0}) NodeError) (new : S) : Type 0 where
  pub silent : sent ≡ []
  pub told : outcome ≡ Ok tt
  pub is : new ≡ next

-- ---- a relay (RFC 6733, sections 2.8.1, 5.5.4 and 6)

abbrev pub OnRelayEvent : RelayState → NodeEvent → Traffic → Result (Unit {0}) NodeError → RelayState → Type 0
-- A peer that is not linked or is up is refused.
OnRelayEvent relay (up local peer conn) sent outcome next =
    MatchOption (up_fault relay peer conn) (Does relay (λ out new. (out ≡ []) × (new ≡ after_up relay peer conn)) sent outcome next)
    (λ error. Refuses relay (error_of_relay error) sent outcome next)
-- A connection that no peer is up on is refused.
OnRelayEvent relay (message conn m) sent outcome next =
    MatchOption (peer_on relay.node conn) (Refuses relay (fault.UnknownConn conn) sent outcome next)
    (λ sender. Does relay (λ out new. OnMessage relay conn sender.name m out new) sent outcome next)
OnRelayEvent relay (lost conn) sent outcome next =
    MatchOption (peer_in relay.node.peers.links conn) (Refuses relay (fault.UnknownConn conn) sent outcome next)
    (λ peer. Does relay (λ out new. OnConnLost relay conn out new) sent outcome next)
-- It does not tell who leaves from who stays, keeps no time, and nothing works for it elsewhere.
OnRelayEvent relay (leaving conn) sent outcome next = Becomes relay sent outcome next
OnRelayEvent relay (tick moment) sent outcome next = Becomes relay sent outcome next
OnRelayEvent relay wake sent outcome next = Becomes relay sent outcome next

-- ---- a relay that may compare End-to-End Identifiers (RFC 6733, section 3)

-- it drops what came
abbrev pub drops : MatchingRelay → NodeEvent → Bool
drops relay (up local peer conn) = false
drops relay (message conn m) = is_dropped relay.matching relay.relay conn m
drops relay (leaving conn) = false
drops relay (lost conn) = false
drops relay (tick moment) = false
drops relay wake = false

abbrev pub one_dropped_more : MatchingRelay → MatchingRelay
one_dropped_more relay = record relay { mismatched = mismatched_after true relay.mismatched }

-- An answer that it drops is counted, and changes nothing else; at every other event it does what every relay does.
abbrev pub OnMatchingEvent : MatchingRelay → NodeEvent → Traffic → Result (Unit {0}) NodeError → MatchingRelay → Type 0
OnMatchingEvent old event sent outcome new =
    MatchBool (drops old event) (Becomes (one_dropped_more old) sent outcome new)
    (OnRelayEvent old.relay event sent outcome new.relay × (new ≡ record old { relay = new.relay }))

-- ---- a relay some of whose peers leave (RFC 6733, section 5.4)

-- the same relay, with another one inside
abbrev pub with_relay : RelayState → PartingRelay → PartingRelay
with_relay relay parting = record parting { matched = record parting.matched { relay = relay } }

abbrev pub OnPartingEvent : PartingRelay → NodeEvent → Traffic → Result (Unit {0}) NodeError → PartingRelay → Type 0
-- A peer that comes up stays. One that is not linked or is up is refused.
OnPartingEvent old (up local peer conn) sent outcome new =
    MatchOption (up_fault old.matched.relay peer conn)
    (Does old (λ out next. (out ≡ []) × (next ≡ record (with_relay (after_up old.matched.relay peer conn) old) { staying = with_staying old.staying peer conn })) sent outcome new)
    (λ error. Refuses old (error_of_relay error) sent outcome new)
-- A request goes to those that stay. An answer that is dropped is counted, and changes nothing else.
OnPartingEvent old (message conn m) sent outcome new =
    MatchBool (is_dropped old.matched.matching old.matched.relay conn m) (Becomes (record old { matched = one_dropped_more old.matched }) sent outcome new)
    (MatchOption (peer_on old.matched.relay.node conn) (Refuses old (fault.UnknownConn conn) sent outcome new)
    (λ sender. Does old (λ out next. OnMessageAmong old.staying old.matched.relay conn sender.name m out next.matched.relay × (next ≡ with_relay next.matched.relay old)) sent outcome new))
-- One that leaves stays no more, and nothing else changes. A connection that no peer has is refused.
OnPartingEvent old (leaving conn) sent outcome new =
    MatchOption (peer_in old.matched.relay.node.peers.links conn) (Refuses old (fault.UnknownConn conn) sent outcome new)
    (λ peer. Becomes (record old { staying = without_conn old.staying conn }) sent outcome new)
OnPartingEvent old (lost conn) sent outcome new =
    MatchOption (peer_in old.matched.relay.node.peers.links conn) (Refuses old (fault.UnknownConn conn) sent outcome new)
    (λ peer. Does old (λ out next. OnConnLostAmong old.staying old.matched.relay conn out next.matched.relay
    × (next ≡ record (with_relay next.matched.relay old) { staying = without_conn old.staying conn })) sent outcome new)
OnPartingEvent old (tick moment) sent outcome new = Becomes old sent outcome new
OnPartingEvent old wake sent outcome new = Becomes old sent outcome new

-- ---- a front (RFC 8506, section 8): what its workers do is no event of a node

abbrev pub OnFrontEvent : FrontState → NodeEvent → Traffic → Result (Unit {0}) NodeError → FrontState → Type 0
OnFrontEvent front (up local peer conn) sent outcome next =
    Does front (λ out new. (out ≡ []) × (new ≡ with_connection front conn)) sent outcome next
-- A connection that is not up is refused.
OnFrontEvent front (message conn m) sent outcome next =
    MatchBool (is_among front.connections conn)
    (Does front (λ out new. (out ≡ sent_at_arrival front conn m) × (new ≡ after_arrival front conn m)) sent outcome next)
    (Refuses front (fault.UnknownConn conn) sent outcome next)
-- It sends no request.
OnFrontEvent front (leaving conn) sent outcome next = Becomes front sent outcome next
-- What came on it stays, and may still be charged.
OnFrontEvent front (lost conn) sent outcome next = Becomes (without_connection front conn) sent outcome next
OnFrontEvent front (tick moment) sent outcome next = Becomes front sent outcome next
OnFrontEvent front wake sent outcome next = Becomes front sent outcome next
