-- A request goes out on the connection of a peer that is up, and so on none that has ended.
use Rattle.std.proofs.Common.{◌≡◌, ℕ, not, Bool, true, false, cond, List, [], ◌∷◌, Option, Some, None, option_map, Result, Ok, Err, refl, ap, ◌∙◌}
use Rattle.std.specs.List.{find}
use Rattle.std.proofs.lemmas.Bool.{eq-eqb}
use Rattle.dia_base.specs.declared.number.ConnId.{ConnId}
use Rattle.dia_base.specs.declared.number.NodeNo.{NodeNo}
use Rattle.dia_avp.specs.declared.avp.RawAvp.{RawAvp}
use Rattle.relay_peers.specs.declared.peers.Link.{Link}
use Rattle.relay_peers.specs.declared.peers.LinkedPeer.{LinkedPeer}
use Rattle.dia_base.specs.declared.node.NodeKind.{NodeKind}
use Rattle.dia_base.specs.declared.node.NodeKind.TheVariants.{Relay, Front, Client}
use Rattle.relay_peers.specs.PeerTable.{is_of, is_on, conn_in, peer_in, without_conn}
use Rattle.relay_routes.specs.declared.routes.RouteFault.{RouteFault}
use Rattle.relay_routes.specs.declared.routes.RouteFault.TheVariants.{RealmUnknown, NoApplication}
use Rattle.relay_core.specs.declared.node.RelayNode.{RelayNode}
use Rattle.relay_core.specs.NextHop.{or_later, is_passed_over, conn_for, first_conn, deliverable, hop_to_host, hop_by_realm, hop_by_host, candidates_for, peer_for, host_in, realm_in, next_hop}

its_conn : (b : Bool) (link : Link) (rest : Option Link) (lost : ConnId) → option_map (λ l. l.conn) (cond b (Some link) rest) ≡ Some lost
    → ((link.conn ≡ lost) → ⊥) → (option_map (λ l. l.conn) rest ≡ Some lost → ⊥) → ⊥
its_conn true link rest lost e here more = here (let same : link.conn ≡ lost = cc in same)
its_conn false link rest lost e here more = more e

nobody_here : (b : Bool) (link : Link) (rest : Option Link) → option_map (λ l. l.peer) (cond b (Some link) rest) ≡ None → (b ≡ false) × (option_map (λ l. l.peer) rest ≡ None)
nobody_here true link rest e = absurd cc
nobody_here false link rest e = (refl, e)

pub conn_in-never : (links : List Link) (peer : NodeNo) (lost : ConnId) → peer_in links lost ≡ None → conn_in links peer ≡ Some lost → ⊥
conn_in-never [] peer lost none e = absurd cc
conn_in-never (link ∷ links) peer lost none e =
    let none_here = nobody_here (is_on lost link) link (find (is_on lost) links) none in
    its_conn (is_of peer link) link (find (is_of peer) links) lost e
    (λ same. let is : is_on lost link ≡ true = eq-eqb link.conn.0 lost.0 (ap (λ (c : ConnId). c.0) same) in absurd (let no : is_on lost link ≡ false = none_here.0 in cc))
    (conn_in-never links peer lost none_here.1)

deliverable-is : (o : Option ConnId) (to : ConnId) → deliverable o ≡ Ok to → o ≡ Some to
deliverable-is None to e = absurd cc
deliverable-is (Some conn) to e = cc

-- a candidate that a request goes to is up and not passed over
pub not_passed : (b : Bool) (o : Option ConnId) (to : ConnId) → cond b None o ≡ Some to → (b ≡ false) × (o ≡ Some to)
not_passed true o to e = absurd cc
not_passed false o to e = (refl, e)

conn_for-never : (node : RelayNode) (lost : ConnId) → peer_in node.peers.links lost ≡ None → (avps : List RawAvp) (peer : NodeNo) → conn_for node avps peer ≡ Some lost → ⊥
conn_for-never node lost none avps peer e =
    conn_in-never node.peers.links peer lost none (not_passed (is_passed_over node avps peer) (conn_in node.peers.links peer) lost e).1

or_later-is : (o later : Option ConnId) (to : ConnId) → or_later o later ≡ Some to → (o ≡ Some to → ⊥) → (later ≡ Some to → ⊥) → ⊥
or_later-is None later to e first rest = rest e
or_later-is (Some conn) later to e first rest = first e

first_conn-never : (node : RelayNode) (lost : ConnId) → peer_in node.peers.links lost ≡ None → (avps : List RawAvp) (peers : List NodeNo) → first_conn node avps peers ≡ Some lost → ⊥
first_conn-never node lost none avps [] e = absurd cc
first_conn-never node lost none avps (peer ∷ peers) e =
    or_later-is (conn_for node avps peer) (first_conn node avps peers) lost e (conn_for-never node lost none avps peer) (first_conn-never node lost none avps peers)

host-never : (node : RelayNode) (lost : ConnId) → peer_in node.peers.links lost ≡ None → (avps : List RawAvp) (peer : NodeNo) (kind : NodeKind) → hop_to_host node avps peer kind ≡ Ok lost → ⊥
host-never node lost none avps peer Client e = absurd cc
host-never node lost none avps peer Relay e = conn_for-never node lost none avps peer (deliverable-is (conn_for node avps peer) lost e)
host-never node lost none avps peer Front e = conn_for-never node lost none avps peer (deliverable-is (conn_for node avps peer) lost e)

realm-never : (node : RelayNode) (lost : ConnId) → peer_in node.peers.links lost ≡ None → (avps : List RawAvp) (found : Result (List NodeNo) RouteFault) → hop_by_realm node avps found ≡ Ok lost → ⊥
realm-never node lost none avps (Err RealmUnknown) e = absurd cc
realm-never node lost none avps (Err NoApplication) e = absurd cc
realm-never node lost none avps (Ok peers) e = first_conn-never node lost none avps peers (deliverable-is (first_conn node avps peers) lost e)

by_host-never : (node : RelayNode) (lost : ConnId) → peer_in node.peers.links lost ≡ None → (avps : List RawAvp) (peer : Option LinkedPeer) (realm : Option (List ℕ)) (app : ℕ)
    → hop_by_host node avps peer realm app ≡ Ok lost → ⊥
by_host-never node lost none avps None realm app e = realm-never node lost none avps (candidates_for node realm app) e
by_host-never node lost none avps (Some peer) realm app e = host-never node lost none avps peer.peer peer.kind e

pub next_hop-never : (node : RelayNode) (lost : ConnId) → peer_in node.peers.links lost ≡ None → (avps : List RawAvp) (app : ℕ) → next_hop node avps app ≡ Ok lost → ⊥
next_hop-never node lost none avps app e = by_host-never node lost none avps (peer_for node (host_in avps)) (realm_in avps) app e

-- ---- the peer of a connection that has ended is down

left_out : (b : Bool) (link : Link) (links : List Link) (p : Link → Bool) → p link ≡ b → option_map (λ (l : Link). l.peer) (find p links) ≡ None
    → option_map (λ (l : Link). l.peer) (find p (cond (not b) (link ∷ links) links)) ≡ None
left_out true link links p e none = none
left_out false link links p e none = ap (λ b. option_map (λ (l : Link). l.peer) (cond b (Some link) (find p links))) e ∙ none

pub none_on : (links : List Link) (lost : ConnId) → peer_in (without_conn links lost) lost ≡ None
none_on [] lost = refl
none_on (link ∷ links) lost = left_out (is_on lost link) link (without_conn links lost) (is_on lost) refl (none_on links lost)
