-- What becomes of a request that came to a relay: the thirteen rules, in the order in which they decide (RFC 6733, sections 6.1.1 to 6.1.9 and 7.1).
use Rattle.std.specs.Prelude.{ℕ, Bool, true, false, not, ◌&&◌, List, [], ◌∷◌, if◌then◌else◌, Option, Some, None, is_some, is_none, Result, Ok, Err}
use Rattle.dia_base.specs.Folding.{same_folded}
use Rattle.dia_base.specs.declared.number.ConnId.{ConnId}
use Rattle.dia_base.specs.declared.number.NodeNo.{NodeNo}
use Rattle.dia_avp.specs.declared.avp.RawAvp.{RawAvp}
use Rattle.dia_message.specs.declared.message.Message.{Message}
use Rattle.cc_view.specs.Refusal.{avps_of, refusal_with}
use Rattle.cc_view.specs.declared.code.ResultCode.{ResultCode}
use Rattle.cc_view.specs.declared.code.ResultCode.TheVariants.{CommandUnsupported, UnableToDeliver, RealmNotServed, TooBusy, LoopDetected, ApplicationUnsupported}
use Rattle.cc_view.specs.declared.refusal.Refusal.{Refusal}
use Rattle.relay_peers.specs.declared.peers.LinkedPeer.{LinkedPeer}
use Rattle.dia_base.specs.declared.node.NodeKind.{NodeKind}
use Rattle.dia_base.specs.declared.node.NodeKind.TheVariants.{Relay, Front, Client}
use Rattle.relay_routes.specs.declared.routes.RouteFault.{RouteFault}
use Rattle.relay_routes.specs.declared.routes.RouteFault.TheVariants.{RealmUnknown, NoApplication}
use Rattle.relay_routes.specs.Routing.{names_node}
use Rattle.relay_hops.specs.PendingTable.{is_full}
use Rattle.relay_core.specs.declared.node.RelayNode.{RelayNode}
use Rattle.relay_core.specs.RelayState.{RelayState}
use Rattle.relay_core.specs.Forwarding.{recorded, is_too_long}
use Rattle.relay_core.specs.NextHop.{host_in, realm_in, peer_for, candidates_for, outgoing, first_conn, deliverable}

-- ---- the words of the rules

-- it is for the relay itself, which serves nothing: it names it, or nobody
abbrev pub is_for_itself : List ℕ → Option (List ℕ) → Option (List ℕ) → Bool
is_for_itself name (Some host) realm = same_folded name host
is_for_itself name None (Some realm) = false
is_for_itself name None None = true

abbrev pub is_kind_of_client : NodeKind → Bool
is_kind_of_client Client = true
is_kind_of_client Relay = false
is_kind_of_client Front = false

abbrev pub is_client : Option LinkedPeer → Bool
is_client (Some peer) = is_kind_of_client peer.kind
is_client None = false

-- a linked peer that is the host is a candidate alone, else the candidates are those of the routes
abbrev pub candidates : RelayNode → Option LinkedPeer → Option (List ℕ) → ℕ → Result (List NodeNo) RouteFault
candidates node (Some peer) realm app = Ok (peer.peer ∷ [])
candidates node None realm app = candidates_for node realm app

abbrev pub is_of_unknown_realm : Result (List NodeNo) RouteFault → Bool
is_of_unknown_realm (Err RealmUnknown) = true
is_of_unknown_realm (Err NoApplication) = false
is_of_unknown_realm (Ok peers) = false

abbrev pub lacks_application : Result (List NodeNo) RouteFault → Bool
lacks_application (Err NoApplication) = true
lacks_application (Err RealmUnknown) = false
lacks_application (Ok peers) = false

abbrev pub listed_candidates : Result (List NodeNo) RouteFault → List NodeNo
listed_candidates (Ok peers) = peers
listed_candidates (Err fault) = []

abbrev pub candidates_in : RelayNode → List RawAvp → ℕ → Result (List NodeNo) RouteFault
candidates_in node avps app = candidates node (peer_for node (host_in avps)) (realm_in avps) app

-- the connection of the first of them that is up and not passed over, with the Route-Record of the sender behind these AVPs
abbrev pub conn_among : RelayNode → List ℕ → List RawAvp → Result (List NodeNo) RouteFault → Option ConnId
conn_among node sender avps found = first_conn node (outgoing (Some sender) avps) (listed_candidates found)

abbrev pub with_no_avp : Result ConnId ResultCode → Result ConnId Refusal
with_no_avp (Ok conn) = Ok conn
with_no_avp (Err code) = Err (refusal_with code)

-- ---- the rules

-- The connection that a request of this sender goes out on, or its refusal, by the first rule that applies. It reads the AVPs that the body splits into.
abbrev pub verdict : RelayState → List ℕ → Message → Result (List RawAvp) Refusal → Result ConnId Refusal
-- 1. The body is no list of AVPs: DIAMETER_INVALID_AVP_LENGTH, 5014 (7.1.5).
verdict relay sender request (Err refusal) = Err refusal
verdict relay sender request (Ok avps) =
    -- 2. A Route-Record is the relay's own identity: DIAMETER_LOOP_DETECTED, 3005 (6.1.3).
    if names_node relay.node.name avps then Err (refusal_with LoopDetected)
    -- 3. P is clear, so that it may not be forwarded: DIAMETER_COMMAND_UNSUPPORTED, 3001 (3).
    else if not request.header.proxiable then Err (refusal_with CommandUnsupported)
    -- 4. Destination-Host without Destination-Realm: DIAMETER_UNABLE_TO_DELIVER, 3002 (6.1.1).
    else if is_some (host_in avps) && is_none (realm_in avps) then Err (refusal_with UnableToDeliver)
    -- 5. Destination-Host is the relay, or neither is there: DIAMETER_APPLICATION_UNSUPPORTED, 3007 (6.1.4).
    else if is_for_itself relay.node.name (host_in avps) (realm_in avps) then Err (refusal_with ApplicationUnsupported)
    -- 6. With the Route-Record of the sender it would be longer than a message is: 3002.
    else if is_too_long (recorded sender request.body) then Err (refusal_with UnableToDeliver)
    -- 7. Destination-Host is a linked client: 3002.
    else if is_client (peer_for relay.node (host_in avps)) then Err (refusal_with UnableToDeliver)
    -- 8. Destination-Host is another linked peer: `candidates` is that peer alone (6.1.5), and neither of the next two applies.
    -- 9. No route has the realm: DIAMETER_REALM_NOT_SERVED, 3003 (6.1.6).
    else if is_of_unknown_realm (candidates_in relay.node avps request.header.application) then Err (refusal_with RealmNotServed)
    -- 10. The realm has no route for the application: 3002.
    else if lacks_application (candidates_in relay.node avps request.header.application) then Err (refusal_with UnableToDeliver)
    -- 11. No candidate is up and not passed over: 3002. Passed over is one that a Route-Record names, that of the sender included.
    else if is_none (conn_among relay.node sender avps (candidates_in relay.node avps request.header.application)) then Err (refusal_with UnableToDeliver)
    -- 12. As many requests are pending as there may be: DIAMETER_TOO_BUSY, 3004.
    else if is_full relay.pending then Err (refusal_with TooBusy)
    -- 13. It goes to the first candidate that is up and not passed over.
    else with_no_avp (deliverable (conn_among relay.node sender avps (candidates_in relay.node avps request.header.application)))

-- what becomes of a request of this sender
abbrev pub decision : RelayState → List ℕ → Message → Result ConnId Refusal
decision relay sender request = verdict relay sender request (avps_of request.body)
