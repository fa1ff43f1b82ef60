-- What a node is linked with: each peer has the number, the name and the kind of a node of the site.
use Rattle.std.proofs.Common.{◌≡◌, ℕ, zero, suc, ◌+◌, ◌<◌, Bool, true, false, List, [], ◌∷◌, length, Some, inl, inr, refl, sym, subst, ap, ◌∙◌, arith, eq-eqb}
use Rattle.std.specs.Prelude.{slice_get, ◌||◌, ◌==◌}
use Rattle.std.specs.List.{list_any}
use Rattle.std.proofs.lemmas.Bool.{leb-true, or_left, or_right}
use Rattle.std.proofs.lemmas.List.Folds.{list_any-append}
use Rattle.dia_base.specs.declared.number.NodeNo.{NodeNo}
use Rattle.dia_base.specs.declared.node.NodeKind.{NodeKind}
use Rattle.relay_peers.specs.declared.peers.LinkedPeer.{LinkedPeer}
use Rattle.relay_peers.specs.PeerTable.{peer_numbered}
use Rattle.relay_core.specs.declared.node.RelayNode.{RelayNode}
use Rattle.relay_core.specs.RelayState.{RelayState}
use Rattle.farm_law.specs.Lists.{Has}
use Rattle.farm_base.specs.declared.site.Node.{Node}
use Rattle.farm_base.specs.declared.site.Site.{Site}
use Rattle.farm_base.specs.Nodes.{kind_in, kind_at, is_linked, name_in, name_at}
use Rattle.farm_model.specs.Run.{peer_if, peers_from}
use Rattle.farm_model.specs.SoundSite.{IsSound}
use Rattle.farm_model.specs.World.{Ends}
use Rattle.farm_model.proofs.Lists.Among.{Has-parts, Has-cons}
use Rattle.farm_model.proofs.Lists.Finding.{any_found}
use Rattle.farm_model.proofs.Wiring.Linked.{linked_are_two}
use Rattle.farm_model.proofs.Wiring.Wired.{RelayIsWired}

-- the peer is one of these nodes, of which the first has a number
record IsListed (place : ℕ) (nodes : List Node) (peer : LinkedPeer) : Type 0 where
  pub at : ℕ
  pub node : Node
  pub got : slice_get nodes at ≡ Some node
  pub number : peer.peer.0 ≡ place + at
  pub name : peer.name ≡ node.name
  pub kind : peer.kind ≡ node.kind

first_listed : (b : Bool) (place : ℕ) (node : Node) (nodes : List Node) (peer : LinkedPeer) → Has peer (peer_if b place node) → IsListed place (node ∷ nodes)
    peer
first_listed false place node nodes peer h = elim h [ ]
first_listed true place node nodes peer h = elim (Has-cons h) [
  | inl is ↦ let number : peer.peer.0 ≡ place = ap (λ (p : LinkedPeer). p.peer.0) is in record
      { at = 0; node = node; got = refl; number = omega arith; name = ap (λ (p : LinkedPeer). p.name) is; kind = ap (λ (p : LinkedPeer). p.kind) is }
  | inr g ↦ elim g [ ]
]

peers_listed : (site : Site) (at : NodeNo) (place : ℕ) (nodes : List Node) (peer : LinkedPeer) → Has peer (peers_from site at place nodes) → IsListed place
    nodes peer
peers_listed site at place [] peer h = elim h [ ]
peers_listed site at place (node ∷ nodes) peer h = elim (Has-parts (peer_if (is_linked site at (record { 0 = place })) place node) h) [
  | inl g ↦ first_listed (is_linked site at (record { 0 = place })) place node nodes peer g
  | inr g ↦ let l = peers_listed site at (place + 1) nodes peer g in let number = l.number in record
      { at = suc l.at; node = l.node; got = l.got; number = omega arith; name = l.name; kind = l.kind }
]

-- a linked peer is called and does what the node of its number is called and does
pub linked_node : (site : Site) (at : NodeNo) (peer : LinkedPeer) → Has peer (peers_from site at 0 site.nodes) → (kind_at site peer.peer ≡ Some peer.kind) ×
    (peer.name ≡ name_at site peer.peer)
linked_node site at peer h =
    let l = peers_listed site at 0 site.nodes peer h in
    let number = l.number in
    let same : peer.peer.0 ≡ l.at = omega arith in
    let got : slice_get site.nodes peer.peer.0 ≡ Some l.node = ap (slice_get site.nodes) same ∙ l.got in
    (ap kind_in got ∙ ap (λ (k : NodeKind). Some k) (sym l.kind), l.name ∙ sym (ap name_in got))

-- ---- each that is linked is listed

abbrev is_peer : NodeNo → LinkedPeer → Bool
is_peer peer p = p.peer.0 == peer.0

listed_if : (b : Bool) (place : ℕ) (node : Node) (peer : NodeNo) → peer.0 ≡ place → b ≡ true → list_any (is_peer peer) (peer_if b place node) ≡ true
listed_if true place node peer same e = let here_is : (place == peer.0) ≡ true = eq-eqb place peer.0 (sym same) in ap (λ (c : Bool). c || false) here_is
listed_if false place node peer same e = absurd cc

listed_from : (site : Site) (at peer : NodeNo) → is_linked site at peer ≡ true → (place : ℕ) (nodes : List Node) (k : ℕ) → k < length nodes → peer.0 ≡ place +
    k → list_any (is_peer peer) (peers_from site at place nodes) ≡ true
listed_from site at peer linked place [] k within same = absurd (omega arith)
listed_from site at peer linked place (node ∷ nodes) zero within same =
    let first_is : peer.0 ≡ place = omega arith in
    let whole : peer ≡ record { 0 = place } = ap (λ (n : ℕ). record { 0 = n }) first_is in
    let linked_here : is_linked site at (record { 0 = place }) ≡ true = subst (λ (n : NodeNo). is_linked site at n ≡ true) whole linked in
    list_any-append (is_peer peer) (peer_if (is_linked site at (record { 0 = place })) place node) (peers_from site at (place + 1) nodes)
    ∙ or_left (list_any (is_peer peer) (peer_if (is_linked site at (record { 0 = place })) place node)) _
    (listed_if (is_linked site at (record { 0 = place })) place node peer first_is linked_here)
listed_from site at peer linked place (node ∷ nodes) (suc k) within same =
    let rest_is : peer.0 ≡ place + 1 + k = omega arith in
    list_any-append (is_peer peer) (peer_if (is_linked site at (record { 0 = place })) place node) (peers_from site at (place + 1) nodes)
    ∙ or_right (list_any (is_peer peer) (peer_if (is_linked site at (record { 0 = place })) place node)) _
    (listed_from site at peer linked (place + 1) nodes k (omega arith) rest_is)

-- each node that is linked with a relay is a peer of it
pub peer_is_listed : {site : Site} {ends made : Ends} {node : NodeNo} {relay : RelayState} → IsSound site → RelayIsWired site ends made node relay →
    (peer : NodeNo) → is_linked site node peer ≡ true
    → (p : LinkedPeer) × (peer_numbered relay.node.peers.linked peer ≡ Some p)
peer_is_listed {site} {node} {relay} checked wired peer linked =
    let known = leb-true (peer.0 + 1) (length site.nodes) (linked_are_two checked node peer linked).second_known in
    let same : peer.0 ≡ 0 + peer.0 = omega arith in
    let any = listed_from site node peer linked 0 site.nodes peer.0 (omega arith) same in
    let peers_are : relay.node.peers.linked ≡ peers_from site node 0 site.nodes = ap (λ (n : RelayNode). n.peers.linked) wired.node_is in
    any_found (is_peer peer) relay.node.peers.linked (ap (λ (peers : List LinkedPeer). list_any (is_peer peer) peers) peers_are ∙ any)
