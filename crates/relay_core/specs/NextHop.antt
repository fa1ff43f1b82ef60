-- Which connection a request goes out on (RFC 6733, sections 6.1.3 to 6.1.6). A relay asks this when a request comes, and again when the connection that it went out on has ended.
use Rattle.std.specs.Prelude.{ℕ, Bool, false, List, [], ◌∷◌, ◌++◌, find, Option, Some, None, option_map, if◌then◌else◌, Result, Ok, Err}
use Rattle.dia_base.specs.declared.number.ConnId.{ConnId}
use Rattle.dia_base.specs.declared.number.NodeNo.{NodeNo}
use Rattle.dia_avp.specs.declared.avp.RawAvp.{RawAvp}
use Rattle.dia_base.specs.Codes.{destination_realm, destination_host}
use Rattle.dia_grammar.specs.Grammar.{is_of}
use Rattle.cc_view.specs.declared.code.ResultCode.{ResultCode}
use Rattle.cc_view.specs.declared.code.ResultCode.TheVariants.{UnableToDeliver, RealmNotServed}
use Rattle.relay_peers.specs.declared.peers.LinkedPeer.{LinkedPeer}
use Rattle.dia_base.specs.declared.node.NodeKind.{NodeKind}
use Rattle.dia_base.specs.declared.node.NodeKind.TheVariants.{Relay, Front, Client}
use Rattle.relay_peers.specs.PeerTable.{conn_in, peer_named, peer_numbered}
use Rattle.relay_routes.specs.declared.routes.RouteFault.{RouteFault}
use Rattle.relay_routes.specs.declared.routes.RouteFault.TheVariants.{RealmUnknown, NoApplication}
use Rattle.relay_routes.specs.Routing.{candidates_of, names_node, record_of}
use Rattle.relay_core.specs.declared.node.RelayNode.{RelayNode}

-- ---- what a relay reads in a request

-- the value of the first AVP of a code, of vendor 0
abbrev pub value_of : ℕ → List RawAvp → Option (List ℕ)
value_of code avps = option_map (λ avp. avp.value) (find (is_of code) avps)

-- Destination-Host (6.5) and Destination-Realm (6.6)
abbrev pub host_in : List RawAvp → Option (List ℕ)
host_in avps = value_of destination_host avps

abbrev pub realm_in : List RawAvp → Option (List ℕ)
realm_in avps = value_of destination_realm avps

-- ---- the candidates

-- the linked peer that is named as the host
abbrev pub peer_for : RelayNode → Option (List ℕ) → Option LinkedPeer
peer_for node (Some host) = peer_named node.peers.linked host
peer_for node None = None

-- the peers of the route for realm and application; no route has the realm of a request that names none
abbrev pub candidates_for : RelayNode → Option (List ℕ) → ℕ → Result (List NodeNo) RouteFault
candidates_for node (Some realm) app = candidates_of node.routes realm app
candidates_for node None app = Err RealmUnknown

-- ---- candidates that are passed over

-- The AVPs of a request as it goes out: behind those that came stands the Route-Record of the peer that it has just come from (6.1.9).
-- Where it went out before, that is among them.
abbrev pub outgoing : Option (List ℕ) → List RawAvp → List RawAvp
outgoing (Some sender) avps = avps ++ record_of sender ∷ []
outgoing None avps = avps

abbrev pub names_peer : List RawAvp → Option LinkedPeer → Bool
names_peer avps (Some peer) = names_node peer.name avps
names_peer avps None = false

-- A Route-Record of the request as it goes out is the peer's identity: the request was there, and would be refused there as a loop
-- (6.1.3).
abbrev pub is_passed_over : RelayNode → List RawAvp → NodeNo → Bool
is_passed_over node avps peer = names_peer avps (peer_numbered node.peers.linked peer)

-- ---- the first of them that is up and not passed over

-- the connection of a candidate, if it is up and not passed over
abbrev pub conn_for : RelayNode → List RawAvp → NodeNo → Option ConnId
conn_for node avps peer = if is_passed_over node avps peer then None else conn_in node.peers.links peer

abbrev pub or_later : Option ConnId → Option ConnId → Option ConnId
or_later (Some conn) later = Some conn
or_later None later = later

abbrev pub first_conn : RelayNode → List RawAvp → List NodeNo → Option ConnId
first_conn node avps [] = None
first_conn node avps (peer ∷ peers) = or_later (conn_for node avps peer) (first_conn node avps peers)

abbrev pub deliverable : Option ConnId → Result ConnId ResultCode
deliverable (Some conn) = Ok conn
deliverable None = Err UnableToDeliver

-- ---- where a request goes

-- to a linked peer that is named as the host, which is a relay or a front: no request goes to a client
abbrev pub hop_to_host : RelayNode → List RawAvp → NodeNo → NodeKind → Result ConnId ResultCode
hop_to_host node avps peer Client = Err UnableToDeliver
hop_to_host node avps peer Relay = deliverable (conn_for node avps peer)
hop_to_host node avps peer Front = deliverable (conn_for node avps peer)

-- by realm and application
abbrev pub hop_by_realm : RelayNode → List RawAvp → Result (List NodeNo) RouteFault → Result ConnId ResultCode
hop_by_realm node avps (Err RealmUnknown) = Err RealmNotServed
hop_by_realm node avps (Err NoApplication) = Err UnableToDeliver
hop_by_realm node avps (Ok peers) = deliverable (first_conn node avps peers)

-- a linked peer that is the host decides first
abbrev pub hop_by_host : RelayNode → List RawAvp → Option LinkedPeer → Option (List ℕ) → ℕ → Result ConnId ResultCode
hop_by_host node avps (Some peer) realm app = hop_to_host node avps peer.peer peer.kind
hop_by_host node avps None realm app = hop_by_realm node avps (candidates_for node realm app)

-- where a request goes that has these AVPs as it goes out, by the peers that are up, or why it goes nowhere
abbrev pub next_hop : RelayNode → List RawAvp → ℕ → Result ConnId ResultCode
next_hop node avps app = hop_by_host node avps (peer_for node (host_in avps)) (realm_in avps) app
