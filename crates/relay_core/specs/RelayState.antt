-- What a relay knows between two events (RFC 6733, sections 2.6, 2.7 and 3).
use Rattle.std.specs.Prelude.{ℕ, List, Option, Some, None}
use Rattle.std.specs.Option.{option_and_then}
use Rattle.dia_base.specs.declared.number.ConnId.{ConnId}
use Rattle.relay_peers.specs.declared.peers.Link.{Link}
use Rattle.relay_peers.specs.declared.peers.LinkedPeer.{LinkedPeer}
use Rattle.relay_peers.specs.PeerTable.{peer_in, peer_numbered, without_conn}
use Rattle.relay_hops.specs.declared.row.Row.{Row}
use Rattle.relay_hops.specs.PendingTable.{PendingTable}
use Rattle.relay_core.specs.declared.node.RelayNode.{RelayNode}

pub record RelayState : Type 0 where
  -- its identity and realm, its peers with the connections of those that are up, and its routes
  pub node : RelayNode
  -- the requests that it has sent and that are not answered
  pub pending : PendingTable

-- the peer at the other end of a connection
abbrev pub peer_on : RelayNode → ConnId → Option LinkedPeer
peer_on node conn = option_and_then (peer_numbered node.peers.linked) (peer_in node.peers.links conn)

-- ---- what an event may change

abbrev pub with_links : List Link → RelayNode → RelayNode
with_links links node = record node { peers = record node.peers { links = links } }

abbrev pub with_rows : List Row → RelayState → RelayState
with_rows rows relay = record relay { pending = record relay.pending { rows = rows } }

-- the count from which identifiers are given has gone on
abbrev pub with_next : ℕ → RelayState → RelayState
with_next next relay = record relay { pending = record relay.pending { next = next } }

-- the links, but for one on a connection that ends
abbrev pub links_but : Option ConnId → List Link → List Link
links_but None links = links
links_but (Some ended) links = without_conn links ended

abbrev pub node_but : Option ConnId → RelayNode → RelayNode
node_but ended node = with_links (links_but ended node.peers.links) node
