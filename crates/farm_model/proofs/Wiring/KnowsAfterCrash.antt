-- A crash: the node has no links, and the other ends of its connections stand as before.
use Rattle.std.proofs.Common.{◌≡◌, Bool, true, false, List, [], Option, Some, None, inl, inr, refl, sym, subst, ap, ◌∙◌}
use Rattle.std.specs.Prelude.{◌⊎◌, filter, not}
use Rattle.std.specs.List.{list_any}
use Rattle.std.proofs.lemmas.Bool.{both_ways, not-true}
use Rattle.dia_base.specs.declared.number.ConnId.{ConnId}
use Rattle.dia_base.specs.declared.number.NodeNo.{NodeNo}
use Rattle.relay_peers.specs.declared.peers.Link.{Link}
use Rattle.relay_peers.specs.PeerTable.{peer_in}
use Rattle.relay_core.specs.RelayState.{RelayState}
use Rattle.relay_core.specs.Connecting.{after_restart as restarted_relay}
use Rattle.farm_law.specs.Lists.{Has}
use Rattle.farm_base.specs.declared.site.Site.{Site}
use Rattle.farm_model.specs.declared.state.Direction.{Direction}
use Rattle.farm_model.specs.declared.state.RelayAt.{RelayAt}
use Rattle.farm_model.specs.Loss.{with_restart_of_relay, after_crash}
use Rattle.farm_base.specs.Nodes.{is_node}
use Rattle.farm_model.specs.World.{WorldState, is_relay_at, relay_at}
use Rattle.farm_model.proofs.Wiring.KnowsPeers.{LinkStands, KnowsPeers}
use Rattle.farm_model.proofs.Lists.Numbering.{same_node, node_itself, nodes_turned}
use Rattle.farm_model.proofs.Wiring.RelayPlaces.{relay_after_change, present_after_change}
use Rattle.farm_model.proofs.Wiring.Sides.{Side, sides, side_was, old_side, side_kept}

-- ---- the relays, with that at one node begun anew

-- the relay at a node then: it has no links, or is another one
abbrev IsAfterRestart : NodeNo → List RelayAt → NodeNo → RelayState → Type 0
IsAfterRestart node relays other found = ((other ≡ node) × (found.node.peers.links ≡ [])) ⊎
    ((is_node node other ≡ false) × (relay_at other relays ≡ Some found))

relay_after_restart : (node : NodeNo) (relays : List RelayAt) (other : NodeNo) (found : RelayState) → relay_at other
    (with_restart_of_relay node relays (relay_at node relays)) ≡ Some found → IsAfterRestart node relays other found
relay_after_restart node relays other found e = go (relay_at node relays) refl e
  where
    absent : relay_at node relays ≡ None → relay_at other relays ≡ Some found → (b : Bool) → is_node node other ≡ b → IsAfterRestart node relays other found
    absent gone k false n = inr (n, k)
    absent gone k true n = let here_is : None ≡ Some found = sym gone ∙ ap (λ (m : NodeNo). relay_at m relays) (same_node node other n) ∙ k in absurd cc

    go : (o : Option RelayState) → relay_at node relays ≡ o → relay_at other (with_restart_of_relay node relays o) ≡ Some found → IsAfterRestart node relays
        other found
    go None f k = absent f k (is_node node other) refl
    go (Some relay) f k = elim (relay_after_change node (restarted_relay relay) relays other found k) [
      | inl is ↦ inl (is.0, ap (λ (r : RelayState). r.node.peers.links) is.1)
      | inr is ↦ inr is
    ]

present_after_restart : (node : NodeNo) (relays : List RelayAt) (other : NodeNo) → list_any (is_relay_at other)
    (with_restart_of_relay node relays (relay_at node relays)) ≡ list_any (is_relay_at other) relays
present_after_restart node relays other = go (relay_at node relays)
  where
    go : (o : Option RelayState) → list_any (is_relay_at other) (with_restart_of_relay node relays o) ≡ list_any (is_relay_at other) relays
    go None = refl
    go (Some relay) = present_after_change node (restarted_relay relay) relays other

-- ---- the farm then

module _ {site : Site} (w : WorldState) (known : KnowsPeers site w) (node : NodeNo) where
  abbrev is_left : Direction → Bool
  is_left direction = not (is_node direction.to node)

  abbrev left : List Direction
  left = filter is_left w.directions

  -- a relay to which something comes is not the one that has crashed
  other_node : (c : ConnId) (from other : NodeNo) → Has (c, from, other, true) (sides left) → is_node other node ≡ false
  other_node c from other h =
      let was = side_was is_left w.directions (c, from, other, true) h in
      ap (λ (s : Side). is_node s.2 node) (sym was.0.side_is) ∙ not-true (is_node was.0.direction.to node) was.1

  knows_then : (other : NodeNo) (found : RelayState) (c : ConnId) (from : NodeNo) → IsAfterRestart node w.relays other found → Has (c, from, other, true)
      (sides left) → peer_in found.node.peers.links c ≡ Some from
  knows_then other found c from then h = elim then [
    | inl anew ↦ absurd (both_ways (is_node other node) (other_node c from other h) (ap (λ (n : NodeNo). is_node n node) anew.0 ∙ node_itself node))
    | inr is ↦ known.knows other found c from is.1 (old_side w.directions (c, from, other, true) (side_was is_left w.directions (c, from, other, true) h).0)
  ]

  stands_then : (other : NodeNo) (found : RelayState) (link : Link) → IsAfterRestart node w.relays other found → Has link found.node.peers.links → LinkStands
      left other link
  stands_then other found link then h = elim then [
    | inl anew ↦ elim (subst (λ (links : List Link). Has link links) anew.1 h) [ ]
    | inr is ↦ elim (known.stands other found link is.1 h) [
      | inl stood ↦ side_kept is_left w.directions (link.conn, link.peer, other, true)
          (λ direction side_is. ap (λ (s : Side). not (is_node s.2 node)) side_is ∙ ap not (nodes_turned node other is.0)) stood
      | inr lost ↦ elim lost [ ]
    ]
  ]

  pub crash_knows : KnowsPeers site (after_crash w node)
  crash_knows = record {
    knows = λ other found c from e h. knows_then other found c from (relay_after_restart node w.relays other found e) h;
    stands = λ other found link e h. inl (stands_then other found link (relay_after_restart node w.relays other found e) h);
    present = λ other is. present_after_restart node w.relays other ∙ known.present other is;
    ended = λ loss from heard h side. elim h [ ];
  }
