-- How a relay begins, how a peer comes up, and a restart (RFC 6733, sections 2.1 and 5.6).
use Rattle.std.specs.Prelude.{ℕ, ◌%◌, ◌^◌, ◌||◌, [], is_some, is_none, if◌then◌else◌, Option, Some, None}
use Rattle.dia_base.specs.Limits.{pending_limit}
use Rattle.dia_base.specs.declared.number.ConnId.{ConnId}
use Rattle.dia_base.specs.declared.number.NodeNo.{NodeNo}
use Rattle.relay_peers.specs.PeerTable.{conn_in, peer_in, kind_in, with_link}
use Rattle.relay_core.specs.declared.error.RelayError.{RelayError}
use Rattle.relay_core.specs.declared.error.RelayError.TheVariants.{PeerUp, UnknownPeer}
use Rattle.relay_core.specs.declared.node.RelayNode.{RelayNode}
use Rattle.relay_core.specs.declared.node.RelaySite.{RelaySite}
use Rattle.relay_core.specs.RelayState.{RelayState, with_links, with_rows}

abbrev pub new_node : RelaySite → RelayNode
new_node site = record {
  name = site.name;
  realm = site.realm;
  peers = record { linked = site.peers; links = [] };
  routes = site.routes;
}

-- no peer is up, nothing is pending, and identifiers rise from this start
abbrev pub relay_at : RelaySite → ℕ → RelayState
relay_at site start = record { node = new_node site; pending = record { limit = pending_limit; rows = []; next = start % 2 ^ 31 } }

abbrev pub new_relay : RelaySite → RelayState
new_relay site = relay_at site 0

-- why a peer does not come up: it is not linked, or it is up, or another one is up on the connection
abbrev pub up_fault : RelayState → NodeNo → ConnId → Option RelayError
up_fault relay peer conn =
    if is_none (kind_in relay.node.peers.linked peer) then Some (UnknownPeer peer)
    else if is_some (conn_in relay.node.peers.links peer) || is_some (peer_in relay.node.peers.links conn) then Some (PeerUp peer)
    else None

abbrev pub after_up : RelayState → NodeNo → ConnId → RelayState
after_up relay peer conn = record relay { node = with_links (with_link relay.node.peers.links peer conn) relay.node }

-- no peer is up, and nothing is pending; identifiers go on from where they were
abbrev pub after_restart : RelayState → RelayState
after_restart relay = with_rows [] (record relay { node = with_links [] relay.node })
