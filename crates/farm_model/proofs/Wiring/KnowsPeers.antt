-- A relay knows the peer at the other end of each connection that it has learned of and not dropped, and it has no other links.
use Rattle.std.proofs.Common.{◌≡◌, Bool, true, List, [], Some}
use Rattle.std.specs.Prelude.{◌⊎◌}
use Rattle.std.specs.List.{list_any}
use Rattle.dia_base.specs.declared.number.ConnId.{ConnId}
use Rattle.dia_base.specs.declared.number.NodeNo.{NodeNo}
use Rattle.relay_peers.specs.declared.peers.Link.{Link}
use Rattle.relay_peers.specs.PeerTable.{peer_in}
use Rattle.relay_core.specs.RelayState.{RelayState}
use Rattle.farm_law.specs.Lists.{Has}
use Rattle.farm_base.specs.declared.site.Site.{Site}
use Rattle.farm_model.specs.declared.state.Direction.{Direction}
use Rattle.farm_model.specs.Loss.{Loss}
use Rattle.farm_base.specs.Nodes.{is_relay}
use Rattle.farm_model.specs.World.{WorldState, is_relay_at, relay_at}
use Rattle.farm_model.proofs.Wiring.Sides.{sides}

-- ---- what a relay knows of its peers

-- the connection of a link comes to the node, which knows it
abbrev pub LinkStands : List Direction → NodeNo → Link → Type 0
LinkStands directions node link = Has (link.conn, link.peer, node, true) (sides directions)

-- the same, or the node is still to learn that it has ended
abbrev pub LinkStandsBut : List Loss → List Direction → NodeNo → Link → Type 0
LinkStandsBut losses directions node link = LinkStands directions node link ⊎ Has (record { node = node; conn = link.conn }) losses

-- What relays know of their peers, while these losses are still to be learned.
pub record KnowsPeersBut (site : Site) (losses : List Loss) (w : WorldState) : Type 0 where
  -- the relay knows who is at the other end
  pub knows : (node : NodeNo) (relay : RelayState) (conn : ConnId) (from : NodeNo) → relay_at node w.relays ≡ Some relay → Has (conn, from, node, true)
      (sides w.directions) → peer_in relay.node.peers.links conn ≡ Some from
  -- its links stand
  pub stands : (node : NodeNo) (relay : RelayState) (link : Link) → relay_at node w.relays ≡ Some relay → Has link relay.node.peers.links → LinkStandsBut
      losses w.directions node link
  -- each relay of the site is there
  pub present : (node : NodeNo) → is_relay site node ≡ true → list_any (is_relay_at node) w.relays ≡ true
  -- nothing comes any more to a node that is to learn of a loss
  pub ended : (loss : Loss) (from : NodeNo) (known : Bool) → Has loss losses → Has (loss.conn, from, loss.node, known) (sides w.directions) → ⊥

-- between two steps no loss is to be learned
abbrev pub KnowsPeers : Site → WorldState → Type 0
KnowsPeers site w = KnowsPeersBut site [] w
