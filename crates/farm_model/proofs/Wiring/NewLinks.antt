-- What a relay learns of a new connection: where its site links the peer and no connection with it stands, nothing is at fault.
use Rattle.std.proofs.Common.{◌≡◌, ℕ, ◌+◌, ◌≤◌, Bool, true, false, cond, List, [], ◌∷◌, ◌++◌, length, Option, Some, None, inl, inr, refl, sym, ap}
use Rattle.std.proofs.Common.{◌∙◌, arith, eq-eqb}
use Rattle.std.specs.Prelude.{◌⊎◌, ◌||◌, ◌==◌, is_some, is_none, option_map, if◌then◌else◌}
use Rattle.std.specs.List.{find, list_any}
use Rattle.std.proofs.lemmas.Bool.{ne_eqb}
use Rattle.dia_base.specs.declared.node.NodeKind.{NodeKind}
use Rattle.dia_base.specs.declared.number.ConnId.{ConnId}
use Rattle.dia_base.specs.declared.number.NodeNo.{NodeNo}
use Rattle.relay_peers.specs.declared.peers.Link.{Link}
use Rattle.relay_peers.specs.declared.peers.LinkedPeer.{LinkedPeer}
use Rattle.relay_peers.specs.PeerTable.{is_of, is_on, conn_in, peer_in, with_link}
use Rattle.relay_core.specs.declared.error.RelayError.TheVariants.{PeerUp, UnknownPeer}
use Rattle.relay_core.specs.Connecting.{up_fault, after_up}
use Rattle.relay_core.specs.RelayState.{RelayState}
use Rattle.farm_law.specs.Lists.{Has}
use Rattle.farm_base.specs.declared.site.Site.{Site}
use Rattle.farm_model.specs.declared.state.RelayAt.{RelayAt}
use Rattle.farm_model.specs.SoundSite.{IsSound}
use Rattle.farm_model.specs.FarmStep.{next_conn, after_up_by, with_link_of, with_link_at}
use Rattle.farm_base.specs.Nodes.{is_node, is_linked}
use Rattle.farm_model.specs.World.{Ends, WorldState, is_relay_at, relay_at}
use Rattle.farm_model.proofs.Lists.Finding.{find_none, find_before, find_behind, found_mapped}
use Rattle.farm_model.proofs.Wiring.LinkedPeers.{peer_is_listed}
use Rattle.farm_model.proofs.Lists.Numbering.{same_node}
use Rattle.farm_model.proofs.Wiring.RelayPlaces.{relay_after_change, present_after_change}
use Rattle.farm_model.proofs.Wiring.Wired.{IsWired}
use Rattle.farm_model.proofs.Wiring.WiredLemmas.{relay_wired}

-- ---- the peer on a connection, with one link more

pub peer_before : (links more : List Link) (conn : ConnId) (peer : NodeNo) → peer_in links conn ≡ Some peer → peer_in (links ++ more) conn ≡ Some peer
peer_before links more conn peer e =
    let found = found_mapped (λ (l : Link). l.peer) (is_on conn) links e in
    ap (option_map (λ (l : Link). l.peer)) (find_before (is_on conn) links more found.1) ∙ ap (λ (p : NodeNo). Some p) found.2

pub peer_behind : (links : List Link) (peer : NodeNo) (conn : ConnId) → find (is_on conn) links ≡ None → peer_in (with_link links peer conn) conn ≡ Some peer
peer_behind links peer conn e =
    let here_is : (conn.0 == conn.0) ≡ true = eq-eqb conn.0 conn.0 refl in
    ap (option_map (λ (l : Link). l.peer)) (find_behind (is_on conn) links (record { peer = peer; conn = conn } ∷ []) e)
    ∙ ap (λ (b : Bool). option_map (λ (l : Link). l.peer) (cond b (Some (record { peer = peer; conn = conn })) None)) here_is

-- ---- nothing is at fault

no_fault_where : (peer : NodeNo) (kind : NodeKind) (known : Option NodeKind) (up : Option ConnId) (other : Option NodeNo) → known ≡ Some kind → up ≡ None →
    other ≡ None
    → (if is_none known then Some (UnknownPeer peer) else if is_some up || is_some other then Some (PeerUp peer) else None) ≡ None
no_fault_where peer kind None up other k u o = absurd cc
no_fault_where peer kind (Some other_kind) None None k u o = refl
no_fault_where peer kind (Some other_kind) None (Some node) k u o = absurd cc
no_fault_where peer kind (Some other_kind) (Some conn) other k u o = absurd cc

module _ {site : Site} {ends : Ends} (checked : IsSound site) (w : WorldState) (wired : IsWired site ends w) where
  -- no link has the number of the next connection
  pub conn_is_new : (node : NodeNo) (relay : RelayState) → relay_at node w.relays ≡ Some relay → find (is_on (next_conn w)) relay.node.peers.links ≡ None
  conn_is_new node relay at = find_none (is_on (next_conn w)) relay.node.peers.links (λ link h.
      let below : link.conn.0 ≤ length w.ends = ((relay_wired wired.relays at).links link h).below in
      ne_eqb link.conn.0 (length w.ends + 1) (λ same. absurd (omega arith)))

  -- the relay has no link with a peer, where none of its links that stand is with it
  pub no_fault : (node peer : NodeNo) (conn : ConnId) (relay : RelayState) → relay_at node w.relays ≡ Some relay
      → is_linked site node peer ≡ true → ((link : Link) → Has link relay.node.peers.links → link.peer ≡ peer → ⊥)
      → find (is_on conn) relay.node.peers.links ≡ None → up_fault relay peer conn ≡ None
  no_fault node peer conn relay at linked none new =
      let listed = peer_is_listed checked (relay_wired wired.relays at) peer linked in
      let not_up : conn_in relay.node.peers.links peer ≡ None = ap (option_map (λ (l : Link). l.conn))
      (find_none (is_of peer) relay.node.peers.links (λ link h. ne_eqb link.peer.0 peer.0 (λ same. none link h (ap (λ (n : ℕ). record { 0 = n }) same)))) in
      let not_on : peer_in relay.node.peers.links conn ≡ None = ap (option_map (λ (l : Link). l.peer)) new in
      no_fault_where peer listed.0.kind _ _ _ (ap (option_map (λ (p : LinkedPeer). p.kind)) listed.1) not_up not_on

-- ---- the relays, with one link more at one of them

-- the relay at a node then: it has one link more, or is another one
abbrev pub IsAfterUp : NodeNo → NodeNo → ConnId → List RelayAt → NodeNo → RelayState → Type 0
IsAfterUp node peer conn relays other found =
    ((other ≡ node) × ((relay : RelayState) × (relay_at node relays ≡ Some relay) × (found.node.peers.links ≡ with_link relay.node.peers.links peer conn))) ⊎
    ((is_node node other ≡ false) × (relay_at other relays ≡ Some found))

pub relay_after_up : (node peer : NodeNo) (conn : ConnId) (relays : List RelayAt) →
    ((relay : RelayState) → relay_at node relays ≡ Some relay → up_fault relay peer conn ≡ None) → (other : NodeNo) (found : RelayState)
    → relay_at other (with_link_at node peer conn relays) ≡ Some found → IsAfterUp node peer conn relays other found
relay_after_up node peer conn relays sound other found e = go (relay_at node relays) refl e
  where
    absent : relay_at node relays ≡ None → relay_at other relays ≡ Some found → (b : Bool) → is_node node other ≡ b → IsAfterUp node peer conn relays other
        found
    absent none k false n = inr (n, k)
    absent none k true n = let here_is = ap (λ (m : NodeNo). relay_at m relays) (same_node node other n) in let no : None ≡ Some found = sym none ∙ here_is ∙ k
        in absurd cc

    go : (o : Option RelayState) → relay_at node relays ≡ o → relay_at other (with_link_of node peer conn relays o) ≡ Some found → IsAfterUp node peer conn
        relays other found
    go None f k = absent f k (is_node node other) refl
    go (Some relay) f k =
        let up : after_up_by relay peer conn (up_fault relay peer conn) ≡ after_up relay peer conn = ap (after_up_by relay peer conn) (sound relay f) in
        elim (relay_after_change node (after_up_by relay peer conn (up_fault relay peer conn)) relays other found k) [
          | inl is ↦ inl (is.0, (relay, f, ap (λ (r : RelayState). r.node.peers.links) (is.1 ∙ up)))
          | inr is ↦ inr is
        ]

pub present_after_up : (node peer : NodeNo) (conn : ConnId) (relays : List RelayAt) (other : NodeNo) → list_any (is_relay_at other)
    (with_link_at node peer conn relays) ≡ list_any (is_relay_at other) relays
present_after_up node peer conn relays other = go (relay_at node relays)
  where
    go : (o : Option RelayState) → list_any (is_relay_at other) (with_link_of node peer conn relays o) ≡ list_any (is_relay_at other) relays
    go None = refl
    go (Some relay) = present_after_change node (after_up_by relay peer conn (up_fault relay peer conn)) relays other
