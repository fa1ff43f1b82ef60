-- What a relay that hangs together knows of itself and of its peers.
use Rattle.std.proofs.Common.{◌≡◌, ℕ, ◌≤◌, List, length, Option, Some, None, refl, sym, subst, ap, ◌∙◌, Result, Ok, Err}
use Rattle.std.specs.Prelude.{◌==◌}
use Rattle.std.specs.Option.{option_and_then}
use Rattle.dia_base.specs.declared.number.ConnId.{ConnId}
use Rattle.dia_base.specs.declared.number.NodeNo.{NodeNo}
use Rattle.dia_base.proofs.Finding.{found_passes}
use Rattle.dia_avp.specs.declared.avp.RawAvp.{RawAvp}
use Rattle.dia_avp.specs.declared.fault.AvpFault.{AvpFault}
use Rattle.dia_avp.specs.AvpReading.{split_of}
use Rattle.dia_message.specs.declared.message.Message.{Message}
use Rattle.cc_view.specs.Refusal.{avps_by}
use Rattle.relay_peers.specs.declared.peers.Link.{Link}
use Rattle.relay_peers.specs.declared.peers.LinkedPeer.{LinkedPeer}
use Rattle.relay_peers.specs.PeerTable.{is_of, is_on, conn_in, peer_in, peer_numbered}
use Rattle.relay_hops.specs.declared.row.Held.{Held}
use Rattle.relay_core.specs.declared.node.RelayNode.{RelayNode}
use Rattle.relay_core.specs.NextHop.{next_hop, outgoing}
use Rattle.relay_core.specs.RelayState.{RelayState, peer_on}
use Rattle.relay_core.specs.RelayStep.{row_of}
use Rattle.relay_core.specs.Verdict.{decision}
use Rattle.relay_core.proofs.Rules.{forwarded-by}
use Rattle.farm_law.specs.Lists.{Has}
use Rattle.farm_base.specs.declared.site.Site.{Site}
use Rattle.farm_model.specs.SoundSite.{IsSound}
use Rattle.farm_base.specs.Nodes.{is_client, name_at}
use Rattle.farm_model.specs.Run.{peers_from, routes_at}
use Rattle.farm_model.specs.World.{Ends}
use Rattle.farm_model.proofs.Moves.AsFarm.{other_end}
use Rattle.farm_model.proofs.Moves.Deciding.{next_server}
use Rattle.farm_model.proofs.Lists.Finding.{Has-found, found_mapped}
use Rattle.farm_model.proofs.Wiring.Joined.{Joins-other, Joins-same}
use Rattle.farm_model.proofs.Wiring.LinkedPeers.{linked_node}
use Rattle.farm_model.proofs.Lists.Numbering.{same_node, same_conn}
use Rattle.farm_model.proofs.Wiring.Wired.{Joins, RelayIsWired, RowIsWired}

-- ---- links

record IsLink (links : List Link) (peer : NodeNo) (conn : ConnId) : Type 0 where
  pub link : Link
  pub among : Has link links
  pub peer_is : link.peer ≡ peer
  pub conn_is : link.conn ≡ conn

link_of_peer : (links : List Link) (peer : NodeNo) (conn : ConnId) → conn_in links peer ≡ Some conn → IsLink links peer conn
link_of_peer links peer conn e =
    let found = found_mapped (λ (l : Link). l.conn) (is_of peer) links e in
    record {
      link = found.0;
      among = Has-found (is_of peer) links found.1;
      peer_is = same_node found.0.peer peer
          (found_passes (is_of peer) links found.0 found.1);
      conn_is = found.2;
    }

link_on : (links : List Link) (peer : NodeNo) (conn : ConnId) → peer_in links conn ≡ Some peer → IsLink links peer conn
link_on links peer conn e =
    let found = found_mapped (λ (l : Link). l.peer) (is_on conn) links e in
    record {
      link = found.0;
      among = Has-found (is_on conn) links found.1;
      peer_is = found.2;
      conn_is = same_conn found.0.conn conn
          (found_passes (is_on conn) links found.0 found.1);
    }

-- ---- what is forwarded

read_first : (octets : List ℕ) (avps : List RawAvp) (r : Result (List RawAvp) AvpFault) → avps_by octets r ≡ Ok avps → r ≡ Ok avps
read_first octets avps (Ok others) e = let same : others ≡ avps = cc in ap (λ (xs : List RawAvp). Ok xs) same
read_first octets avps (Err fault) e = absurd cc

-- a request that a relay forwards
pub record IsForwardedTo (relay : RelayState) (sender : List ℕ) (request : Message) (to : ConnId) : Type 0 where
  pub avps : List RawAvp
  pub split : split_of request.body ≡ Ok avps
  pub hop : next_hop relay.node (outgoing (Some sender) avps) request.header.application ≡ Ok to

pub is_forwarded : (relay : RelayState) (sender : List ℕ) (request : Message) (to : ConnId) → decision relay sender request ≡ Ok to → IsForwardedTo relay
    sender request to
is_forwarded relay sender request to e =
    let by = forwarded-by relay sender request (avps_by request.body (split_of request.body)) to e in
    record { avps = by.2.0; split = read_first request.body by.2.0 (split_of request.body) by.2.1; hop = by.2.3 }

-- ---- a relay

module _ (site : Site) (ends made : Ends) (node : NodeNo) (relay : RelayState) (wired : RelayIsWired site ends made node relay) where
  pub own_name : relay.node.name ≡ name_at site node
  own_name = ap (λ (n : RelayNode). n.name) wired.node_is

  pub own_realm : relay.node.realm ≡ site.realm
  own_realm = ap (λ (n : RelayNode). n.realm) wired.node_is

  own_linked : relay.node.peers.linked ≡ peers_from site node 0 site.nodes
  own_linked = ap (λ (n : RelayNode). n.peers.linked) wired.node_is

  own_routes : relay.node.routes ≡ routes_at site.routes node
  own_routes = ap (λ (n : RelayNode). n.routes) wired.node_is

  -- the sender of what comes on a connection is the node at its other end
  pub sender_is : (conn : ConnId) (from : NodeNo) (sender : LinkedPeer) → Joins ends conn node from → peer_on relay.node conn ≡ Some sender → sender.name ≡
      name_at site from
  sender_is conn from sender joins e = go (peer_in relay.node.peers.links conn) refl e
    where
      go : (o : Option NodeNo) → peer_in relay.node.peers.links conn ≡ o → option_and_then (peer_numbered relay.node.peers.linked) o ≡ Some sender →
          sender.name ≡ name_at site from
      go None is k = absurd cc
      go (Some peer) is k =
          let link = link_on relay.node.peers.links peer conn is in
          let its = wired.links link.link link.among in
          let peer_joins : Joins ends conn node peer = subst (λ (c : ConnId). Joins ends c node peer) link.conn_is
          (subst (λ (n : NodeNo). Joins ends link.link.conn node n) link.peer_is its.joins) in
          let same : peer ≡ from = Joins-same peer_joins joins in
          let number : sender.peer ≡ peer = same_node sender.peer peer (found_passes (λ (p : LinkedPeer). p.peer.0 == peer.0) relay.node.peers.linked sender k)
          in
          (linked_node site node sender (subst (Has sender) own_linked (Has-found (λ (p : LinkedPeer). p.peer.0 == peer.0) relay.node.peers.linked k))).1
          ∙ ap (name_at site) (number ∙ same)

  -- a request that goes out by some of the links goes to a node that is no client
  pub row_sent : (checked : IsSound site) (out : RelayNode) → out.peers.linked ≡ relay.node.peers.linked → out.routes ≡ relay.node.routes →
      ((link : Link) → Has link out.peers.links → Has link relay.node.peers.links)
      → (avps : List RawAvp) (app : ℕ) (to : ConnId) → next_hop out avps app ≡ Ok to → (held : Held) → RowIsWired site ends made node (row_of to held)
  row_sent checked out linked routes among avps app to e held =
      let server = next_server site node out (linked ∙ own_linked) (routes ∙ own_routes) checked.sound_routes avps app to e in
      let link = link_of_peer out.peers.links server.peer to server.conn in
      let its = wired.links link.link (among link.link link.among) in
      let joins : Joins ends to node server.peer = subst (λ (c : ConnId). Joins ends c node server.peer) link.conn_is
      (subst (λ (n : NodeNo). Joins ends link.link.conn node n) link.peer_is its.joins) in
      let other : other_end ends to node ≡ server.peer = Joins-other joins in
      record {
        joins = subst (λ (n : NodeNo). Joins ends to node n) (sym other) joins;
        below = subst (λ (c : ConnId). c.0 ≤ length made) link.conn_is its.below;
        peer = ap (is_client site) other ∙ server.no_client;
      }
