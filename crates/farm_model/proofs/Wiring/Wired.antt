-- How the farm hangs together: each connection joins two linked nodes, and fronts and relays are those of the site.
use Rattle.std.proofs.Common.{◌≡◌, ℕ, ◌-◌, ◌≤◌, true, false, [], length, Some}
use Rattle.std.specs.Prelude.{◌⊎◌, count_by, slice_get}
use Rattle.dia_base.specs.declared.number.ConnId.{ConnId}
use Rattle.dia_base.specs.declared.number.NodeNo.{NodeNo}
use Rattle.relay_peers.specs.declared.peers.Link.{Link}
use Rattle.relay_hops.specs.declared.row.Row.{Row}
use Rattle.relay_core.specs.Connecting.{new_node}
use Rattle.relay_core.specs.RelayState.{RelayState, with_links}
use Rattle.farm_law.specs.Lists.{Has}
use Rattle.farm_base.specs.declared.site.Site.{Site}
use Rattle.farm_model.specs.declared.state.Direction.{Direction}
use Rattle.farm_model.specs.declared.state.FrontAt.{FrontAt}
use Rattle.farm_model.specs.declared.state.RelayAt.{RelayAt}
use Rattle.farm_base.specs.Nodes.{is_node, is_client, is_front, is_relay, is_linked, name_at}
use Rattle.farm_model.specs.Run.{front_site, relay_site}
use Rattle.farm_model.specs.World.{Ends, WorldState, is_relay_at}
use Rattle.farm_model.proofs.Moves.AsFarm.{other_end}

-- the connection joins two nodes
pub record Joins (ends : Ends) (conn : ConnId) (a b : NodeNo) : Type 0 where
  pub numbered : 1 ≤ conn.0
  pub nodes : NodeNo × NodeNo
  pub made : slice_get ends (conn.0 - 1) ≡ Some nodes
  pub pair : (nodes ≡ (a, b)) ⊎ (nodes ≡ (b, a))
  pub apart : is_node a b ≡ false
  pub apart_turned : is_node b a ≡ false

pub record DirectionIsWired (site : Site) (ends made : Ends) (direction : Direction) : Type 0 where
  pub joins : Joins ends direction.conn direction.from direction.to
  pub below : direction.conn.0 ≤ length made
  pub linked : is_linked site direction.from direction.to ≡ true

pub record FrontIsWired (site : Site) (at : FrontAt) : Type 0 where
  pub is_front : is_front site at.node ≡ true
  pub site_is : at.front.site ≡ front_site site (name_at site at.node)

-- a peer that is up, on a connection with it
pub record LinkIsWired (ends made : Ends) (node : NodeNo) (link : Link) : Type 0 where
  pub joins : Joins ends link.conn node link.peer
  pub below : link.conn.0 ≤ length made

-- a request that was sent to a node that is no client
pub record RowIsWired (site : Site) (ends made : Ends) (node : NodeNo) (row : Row) : Type 0 where
  pub joins : Joins ends row.conn node (other_end ends row.conn node)
  pub below : row.conn.0 ≤ length made
  pub peer : is_client site (other_end ends row.conn node) ≡ false

pub record RelayIsWired (site : Site) (ends made : Ends) (node : NodeNo) (relay : RelayState) : Type 0 where
  pub is_relay : is_relay site node ≡ true
  pub node_is : with_links [] relay.node ≡ new_node (relay_site site node (name_at site node))
  pub links : (link : Link) → Has link relay.node.peers.links → LinkIsWired ends made node link
  pub rows : (row : Row) → Has row relay.pending.rows → RowIsWired site ends made node row

pub record IsWired (site : Site) (ends : Ends) (w : WorldState) : Type 0 where
  -- the connections that were made are the first of the run
  pub begins : (place : ℕ) (nodes : NodeNo × NodeNo) → slice_get w.ends place ≡ Some nodes → slice_get ends place ≡ Some nodes
  pub directions : (direction : Direction) → Has direction w.directions → DirectionIsWired site ends w.ends direction
  pub fronts : (at : FrontAt) → Has at w.fronts → FrontIsWired site at
  pub relays : (at : RelayAt) → Has at w.relays → RelayIsWired site ends w.ends at.node at.relay
  pub alone : (node : NodeNo) → count_by (is_relay_at node) w.relays ≤ 1
