-- A request that goes out goes to a peer that is up and is no client.
use Rattle.std.proofs.Common.{◌≡◌, ℕ, Bool, true, false, List, [], ◌∷◌, Option, Some, None, refl, sym, subst, ap, ◌∙◌, Result, Ok, Err}
use Rattle.std.specs.Prelude.{◌&&◌, ◌||◌, nat_le, filter, length}
use Rattle.std.specs.List.{find, list_all, list_any}
use Rattle.std.proofs.lemmas.Bool.{and_parts}
use Rattle.dia_base.specs.declared.number.ConnId.{ConnId}
use Rattle.dia_base.specs.declared.number.NodeNo.{NodeNo}
use Rattle.dia_base.specs.declared.node.NodeKind.{NodeKind}
use Rattle.dia_base.specs.declared.node.NodeKind.TheVariants.{Relay, Front, Client}
use Rattle.dia_avp.specs.declared.avp.RawAvp.{RawAvp}
use Rattle.relay_peers.specs.declared.peers.Link.{Link}
use Rattle.relay_peers.specs.declared.peers.LinkedPeer.{LinkedPeer}
use Rattle.relay_peers.specs.PeerTable.{conn_in}
use Rattle.relay_routes.specs.declared.routes.RouteFault.{RouteFault}
use Rattle.relay_routes.specs.declared.routes.RouteFault.TheVariants.{RealmUnknown, NoApplication}
use Rattle.relay_routes.specs.declared.routes.Route.{Route as RelayRoute}
use Rattle.relay_routes.specs.Routing.{has_realm, has_realm_and_app, peers_of}
use Rattle.relay_core.specs.declared.node.RelayNode.{RelayNode}
use Rattle.relay_core.specs.NextHop.{or_later, is_passed_over, conn_for, first_conn, deliverable, hop_to_host, hop_by_realm, hop_by_host, candidates_for}
use Rattle.relay_core.specs.NextHop.{peer_for, host_in, realm_in, next_hop}
use Rattle.relay_core.proofs.Reaching.{not_passed}
use Rattle.farm_law.specs.Lists.{Has, here, there}
use Rattle.farm_base.specs.declared.site.Route.{Route}
use Rattle.farm_base.specs.declared.site.Site.{Site}
use Rattle.farm_base.specs.CheckedSite.{is_candidate, is_sound_route}
use Rattle.farm_base.specs.Nodes.{means_client, kind_at, is_node, is_client, is_front, is_relay, is_linked}
use Rattle.farm_model.specs.Run.{peers_from, route_of, routes_at}
use Rattle.farm_model.proofs.Lists.Among.{Has-unmap, Has-filter}
use Rattle.farm_model.proofs.Lists.Finding.{Has-found, all_has}
use Rattle.farm_model.proofs.Wiring.LinkedPeers.{linked_node}
use Rattle.farm_model.proofs.Wiring.OneKind.{server_no_client}

-- the connection is that of a peer that is up and is no client
pub record LeadsToServer (site : Site) (links : List Link) (to : ConnId) : Type 0 where
  pub peer : NodeNo
  pub conn : conn_in links peer ≡ Some to
  pub no_client : is_client site peer ≡ false

-- ---- the first that is up

deliverable-some : (o : Option ConnId) (to : ConnId) → deliverable o ≡ Ok to → o ≡ Some to
deliverable-some None to e = absurd cc
deliverable-some (Some conn) to e = cc

-- a candidate that a request goes to is up
conn_for-some : (node : RelayNode) (avps : List RawAvp) (peer : NodeNo) (to : ConnId) → conn_for node avps peer ≡ Some to →
    conn_in node.peers.links peer ≡ Some to
conn_for-some node avps peer to e = (not_passed (is_passed_over node avps peer) (conn_in node.peers.links peer) to e).1

up_among : (node : RelayNode) (avps : List RawAvp) (peers : List NodeNo) (to : ConnId) → first_conn node avps peers ≡ Some to →
    (peer : NodeNo) × Has peer peers × (conn_in node.peers.links peer ≡ Some to)
up_among node avps [] to e = absurd cc
up_among node avps (peer ∷ peers) to e = go (conn_for node avps peer) refl e (up_among node avps peers to)
  where
    go : (o : Option ConnId) → conn_for node avps peer ≡ o → or_later o (first_conn node avps peers) ≡ Some to →
        (first_conn node avps peers ≡ Some to → (p : NodeNo) × Has p peers × (conn_in node.peers.links p ≡ Some to))
        → (p : NodeNo) × Has p (peer ∷ peers) × (conn_in node.peers.links p ≡ Some to)
    go (Some conn) is k more = (peer, here, conn_for-some node avps peer to (is ∙ k))
    go None is k more = let m = more k in (m.0, there m.1, m.2)

-- ---- routes

route_by : (routes : List RelayRoute) (test : RelayRoute → Bool) (known : Bool) (peers : List NodeNo) (found : Option RelayRoute) → find test routes ≡ found →
    peers_of found known ≡ Ok peers
    → (route : RelayRoute) × Has route routes × (route.peers ≡ peers)
route_by routes test known peers (Some route) is e = let same : route.peers ≡ peers = cc in (route, Has-found test routes is, same)
route_by routes test true peers None is e = absurd cc
route_by routes test false peers None is e = absurd cc

-- ---- where a request goes

module _ (site : Site) (node : NodeNo) (relay : RelayNode) (linked : relay.peers.linked ≡ peers_from site node 0 site.nodes)
    (routes : relay.routes ≡ routes_at site.routes node) (sound : list_all (is_sound_route site) site.routes ≡ true) where
  candidate_no_client : (route : RelayRoute) → Has route relay.routes → (peer : NodeNo) → Has peer route.peers → is_client site peer ≡ false
  candidate_no_client route h peer g =
      let from = Has-unmap route_of (filter (λ (r : Route). is_node r.at node) site.routes) (subst (Has route) routes h) in
      let its = from.0 in
      let among = Has-filter (λ (r : Route). is_node r.at node) site.routes from.1 in
      let good = all_has (is_sound_route site) sound among.0 in
      let parts = and_parts (is_relay site its.at && nat_le (length its.peers) 16) (list_all (is_candidate site its.at) its.peers) good in
      let there_too : Has peer its.peers = subst (Has peer) (sym (ap (λ (r : RelayRoute). r.peers) from.2)) g in
      let fit = all_has (is_candidate site its.at) parts.1 there_too in
      server_no_client (kind_at site peer) (and_parts (is_linked site its.at peer) (is_relay site peer || is_front site peer) fit).1

  by_realm : (avps : List RawAvp) (found : Result (List NodeNo) RouteFault) (to : ConnId) →
      ((peers : List NodeNo) → found ≡ Ok peers → (peer : NodeNo) → Has peer peers → is_client site peer ≡ false) → hop_by_realm relay avps found ≡ Ok
      to → LeadsToServer site relay.peers.links to
  by_realm avps (Err RealmUnknown) to good e = absurd cc
  by_realm avps (Err NoApplication) to good e = absurd cc
  by_realm avps (Ok peers) to good e =
      let up = up_among relay avps peers to (deliverable-some (first_conn relay avps peers) to e) in
      record { peer = up.0; conn = up.2; no_client = good peers refl up.0 up.1 }

  for_realm : (realm : Option (List ℕ)) (app : ℕ) (peers : List NodeNo) → candidates_for relay realm app ≡ Ok peers → (peer : NodeNo) → Has peer peers →
      is_client site peer ≡ false
  for_realm None app peers e peer h = absurd cc
  for_realm (Some realm) app peers e peer h =
      let r = route_by relay.routes (has_realm_and_app realm app) (list_any (has_realm realm) relay.routes) peers
      (find (has_realm_and_app realm app) relay.routes) refl e in
      candidate_no_client r.0 r.1 peer (subst (Has peer) (sym r.2) h)

  kind_no_client : (avps : List RawAvp) (peer : NodeNo) (kind : NodeKind) (to : ConnId) → kind_at site peer ≡ Some kind →
      hop_to_host relay avps peer kind ≡ Ok to → LeadsToServer site relay.peers.links to
  kind_no_client avps peer Client to is e = absurd cc
  kind_no_client avps peer Relay to is e =
      record { peer = peer; conn = conn_for-some relay avps peer to (deliverable-some (conn_for relay avps peer) to e); no_client = ap means_client is }
  kind_no_client avps peer Front to is e =
      record { peer = peer; conn = conn_for-some relay avps peer to (deliverable-some (conn_for relay avps peer) to e); no_client = ap means_client is }

  by_host : (avps : List RawAvp) (host : Option LinkedPeer) (realm : Option (List ℕ)) (app : ℕ) (to : ConnId) →
      ((peer : LinkedPeer) → host ≡ Some peer → Has peer relay.peers.linked) → hop_by_host relay avps host realm app ≡ Ok to →
      LeadsToServer site relay.peers.links to
  by_host avps None realm app to among e = by_realm avps (candidates_for relay realm app) to (for_realm realm app) e
  by_host avps (Some peer) realm app to among e =
      kind_no_client avps peer.peer peer.kind to (linked_node site node peer (subst (Has peer) linked (among peer refl))).0 e

  named : (host : Option (List ℕ)) (peer : LinkedPeer) → peer_for relay host ≡ Some peer → Has peer relay.peers.linked
  named None peer e = absurd cc
  named (Some host) peer e = Has-found _ relay.peers.linked e

  -- it goes to a relay or a front that is up
  pub next_server : (avps : List RawAvp) (app : ℕ) (to : ConnId) → next_hop relay avps app ≡ Ok to → LeadsToServer site relay.peers.links to
  next_server avps app to e = by_host avps (peer_for relay (host_in avps)) (realm_in avps) app to (named (host_in avps)) e
