-- The peers of a node and their connections (RFC 6733, sections 2.1 and 2.6): a finite map from peers to connections.
use Rattle.std.specs.Prelude.{ℕ, ◌≤◌, ◌==◌, ◌&&◌, not, Bool, List, ◌∷◌, [], ◌++◌, filter, find, count_by, Option, Some, None, option_map, if◌then◌else◌}
use Rattle.dia_base.specs.Folding.{same_folded}
use Rattle.dia_base.specs.declared.number.NodeNo.{NodeNo}
use Rattle.dia_base.specs.declared.number.ConnId.{ConnId}
use Rattle.dia_base.specs.declared.node.NodeKind.{NodeKind}
use Rattle.relay_peers.specs.declared.peers.LinkedPeer.{LinkedPeer}
use Rattle.relay_peers.specs.declared.peers.Link.{Link}

-- the peers that the site links with the node, and those of them that are up, each with its connection
pub record PeerTable : Type 0 where
  pub linked : List LinkedPeer
  pub links : List Link

abbrev pub is_of : NodeNo → Link → Bool
is_of peer link = link.peer.0 == peer.0

abbrev pub is_on : ConnId → Link → Bool
is_on conn link = link.conn.0 == conn.0

-- the connection of a peer, if it is up
abbrev pub conn_in : List Link → NodeNo → Option ConnId
conn_in links peer = option_map (λ link. link.conn) (find (is_of peer) links)

-- the peer at the other end of a connection
abbrev pub peer_in : List Link → ConnId → Option NodeNo
peer_in links conn = option_map (λ link. link.peer) (find (is_on conn) links)

-- the linked peer of a number, and that of an identity, without case; of several the first counts
abbrev pub peer_numbered : List LinkedPeer → NodeNo → Option LinkedPeer
peer_numbered linked peer = find (λ p. p.peer.0 == peer.0) linked

abbrev pub peer_named : List LinkedPeer → List ℕ → Option LinkedPeer
peer_named linked name = find (λ p. same_folded p.name name) linked

-- what a linked peer is
abbrev pub kind_in : List LinkedPeer → NodeNo → Option NodeKind
kind_in linked peer = option_map (λ p. p.kind) (peer_numbered linked peer)

-- the links with one more, and the links without those on a connection
abbrev pub with_link : List Link → NodeNo → ConnId → List Link
with_link links peer conn = links ++ record { peer = peer; conn = conn } ∷ []

abbrev pub without_conn : List Link → ConnId → List Link
without_conn links conn = filter (λ link. not (is_on conn link)) links

-- a link of another peer on another connection
abbrev pub is_other : NodeNo → ConnId → Link → Bool
is_other peer conn link = not (is_of peer link) && not (is_on conn link)

-- the links of the peers that stay, with one that comes up: what was known of the peer or of the connection is so no more
abbrev pub with_staying : List Link → NodeNo → ConnId → List Link
with_staying staying peer conn = with_link (filter (is_other peer conn) staying) peer conn

-- the links of those that stay, where some leave, else of all that are up
abbrev pub links_among : Option (List Link) → List Link → List Link
links_among (Some staying) links = staying
links_among None links = links

-- a peer's connection, but for one that has ended
abbrev pub but_for : ConnId → Option ConnId → Option ConnId
but_for ended None = None
but_for ended (Some conn) = if conn.0 == ended.0 then None else Some conn

-- a peer has one connection at most, and a connection one peer
pub record IsOneToOne (links : List Link) : Type 0 where
  pub peers : (peer : NodeNo) → count_by (is_of peer) links ≤ 1
  pub conns : (conn : ConnId) → count_by (is_on conn) links ≤ 1
