-- What a request is routed by, as the code holds it.
use Rattle.std.specs.Prelude.{◌==◌, ◌&&◌, not, Bool, false, Option, Some, None}
use Rattle.dia_base.specs.declared.number.ConnId.{ConnId}
use Rattle.dia_base.specs.declared.number.NodeNo.{NodeNo}
use Rattle.relay_peers.specs.declared.peers.Link.{Link}
use Rattle.relay_peers.specs.PeerTable.{is_of}
use Rattle.relay_core.specs.declared.node.RelayNode.{RelayNode}
use Rattle.relay_core.specs.declared.routing.Routing.{Routing}
use Rattle.relay_core.specs.RelayState.{links_but, with_links}

-- the relay as requests find it: as if only those were up that have these links, but for one on a connection that ends
abbrev pub node_for : Routing → RelayNode
node_for routing = with_links (links_but routing.ended routing.links.now) routing.node.now

abbrev pub is_ended : Option ConnId → ConnId → Bool
is_ended (Some ended) conn = conn.0 == ended.0
is_ended None conn = false

-- it is a link of the peer, and its connection does not end
abbrev pub stands : NodeNo → Option ConnId → Link → Bool
stands peer ended link = is_of peer link && not (is_ended ended link.conn)
