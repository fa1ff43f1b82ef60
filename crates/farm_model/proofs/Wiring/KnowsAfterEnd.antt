-- The end of a node goes: the connections that still come to nodes are known as before, and the node is to learn of its own where it knew it.
use Rattle.std.proofs.Common.{◌≡◌, Bool, true, false, List, [], ◌∷◌, inl, inr, refl, sym, subst, ap, ◌∙◌, true≢false, eq-eqb}
use Rattle.std.specs.Prelude.{◌&&◌, ◌==◌, not}
use Rattle.std.proofs.lemmas.Bool.{and_parts, and_from, both_ways, not-true}
use Rattle.dia_base.specs.declared.number.ConnId.{ConnId}
use Rattle.dia_base.specs.declared.number.NodeNo.{NodeNo}
use Rattle.relay_peers.specs.declared.peers.Link.{Link}
use Rattle.farm_law.specs.Lists.{Has, here}
use Rattle.farm_base.specs.declared.site.Site.{Site}
use Rattle.farm_model.specs.declared.state.Direction.{Direction}
use Rattle.farm_model.specs.InFlight.{goes}
use Rattle.farm_model.specs.Loss.{Loss, after_end}
use Rattle.farm_base.specs.Nodes.{is_node}
use Rattle.farm_model.specs.World.{Ends, WorldState, is_on, is_inward, without_end}
use Rattle.farm_model.proofs.Lists.Among.{Has-cons}
use Rattle.farm_model.proofs.Wiring.Apart.{AreApart, goes_once}
use Rattle.farm_model.proofs.Wiring.Joined.{Joins-turned, Joins-other}
use Rattle.farm_model.proofs.Wiring.KnowsAfterUp.{same_one}
use Rattle.farm_model.proofs.Wiring.KnowsPeers.{LinkStands, LinkStandsBut, KnowsPeersBut, KnowsPeers}
use Rattle.farm_model.proofs.Lists.Numbering.{same_conn, same_node, node_itself}
use Rattle.farm_model.proofs.Wiring.Sides.{Side, sides, direction_of, side_was, old_side, side_kept}
use Rattle.farm_model.proofs.Wiring.Wired.{Joins}

module _ {site : Site} {ends : Ends} (w : WorldState) (joined : (d : Direction) → Has d w.directions → Joins ends d.conn d.from d.to)
    (apart : AreApart (sides w.directions)) (known : KnowsPeers site w) (node : NodeNo) (direction : Direction) (among : Has direction w.directions)
    (to_is : direction.to ≡ node) where
  abbrev conn : ConnId
  conn = direction.conn

  abbrev is_left : Direction → Bool
  is_left d = not (is_inward node conn d)

  abbrev left : List Direction
  left = without_end node conn w.directions

  stood : (n : NodeNo) (link : Link) → LinkStandsBut [] w.directions n link → LinkStands w.directions n link
  stood n link stands = elim stands [ inl s ↦ s | inr lost ↦ elim lost [ ] ]

  -- what comes elsewhere still does
  still : (c : ConnId) (from to : NodeNo) → (is_node to node && c.0 == conn.0) ≡ false → Has (c, from, to, true) (sides w.directions) → Has
      (c, from, to, true) (sides left)
  still c from to other h = side_kept is_left w.directions (c, from, to, true)
      (λ d side_is. ap (λ (s : Side). not (is_node s.2 node && s.0.0 == conn.0)) side_is ∙ ap not other) h

  -- nothing comes to the node on the connection any more
  none_comes : (from : NodeNo) (heard : Bool) → Has (conn, from, node, heard) (sides left) → ⊥
  none_comes from heard h =
      let was = side_was is_left w.directions (conn, from, node, heard) h in
      let of = was.0 in
      let to_node : is_node of.direction.to node ≡ true = ap (λ (s : Side). is_node s.2 node) of.side_is ∙ node_itself node in
      let on_it : is_on conn of.direction ≡ true = eq-eqb of.direction.conn.0 conn.0 (ap (λ (s : Side). s.0.0) of.side_is) in
      both_ways (is_inward node conn of.direction) (not-true (is_inward node conn of.direction) was.1)
      (and_from (is_node of.direction.to node) (is_on conn of.direction) to_node on_it)

  -- a link of the node on the connection is by a way that is known: the one that goes
  link_known : (peer : NodeNo) → Has (conn, peer, node, true) (sides w.directions) → direction.known ≡ true
  link_known peer h =
      let of = direction_of w.directions (conn, peer, node, true) h in
      let d = of.direction in
      let conn_is : d.conn ≡ conn = ap (λ (s : Side). s.0) of.side_is in
      let d_to : d.to ≡ node = ap (λ (s : Side). s.2) of.side_is in
      let theirs : Joins ends conn node d.from =
      Joins-turned (subst (λ (n : NodeNo). Joins ends conn d.from n) d_to (subst (λ (c : ConnId). Joins ends c d.from d.to) conn_is (joined d of.among))) in
      let ours : Joins ends conn node direction.from =
      Joins-turned (subst (λ (n : NodeNo). Joins ends conn direction.from n) to_is (joined direction among)) in
      let from_is : d.from ≡ direction.from = sym (Joins-other theirs) ∙ Joins-other ours in
      let first_goes : goes direction.from node d ≡ true =
      and_from (is_node d.from direction.from) (is_node d.to node) (ap (λ (n : NodeNo). is_node n direction.from) from_is ∙ node_itself direction.from)
      (ap (λ (n : NodeNo). is_node n node) d_to ∙ node_itself node) in
      let second_goes : goes direction.from node direction ≡ true =
      and_from (is_node direction.from direction.from) (is_node direction.to node) (node_itself direction.from)
      (ap (λ (n : NodeNo). is_node n node) to_is ∙ node_itself node) in
      let same : d ≡ direction = same_one (goes direction.from node) w.directions (goes_once w.directions apart direction.from node) of.among among first_goes
      second_goes in
      ap (λ (x : Direction). x.known) (sym same) ∙ ap (λ (s : Side). s.3) of.side_is

  knows_left : (n : NodeNo) (c : ConnId) (from : NodeNo) → Has (c, from, n, true) (sides left) → Has (c, from, n, true) (sides w.directions)
  knows_left n c from h = old_side w.directions (c, from, n, true) (side_was is_left w.directions (c, from, n, true) h).0

  -- where the node knew it, it is to learn
  pub end_known : KnowsPeersBut site (record { node = node; conn = conn } ∷ []) (after_end w node conn)
  end_known = record {
    knows = λ n relay c from at h. known.knows n relay c from at (knows_left n c from h);
    stands = λ n relay link at h. go n link (stood n link (known.stands n relay link at h)) (is_node n node && link.conn.0 == conn.0) refl;
    present = known.present;
    ended = λ loss from heard h side. elim (Has-cons h) [
      | inl is ↦ none_comes from heard (subst (λ (l : Loss). Has (l.conn, from, l.node, heard) (sides left)) is side)
      | inr none ↦ elim none [ ]
    ];
  }
    where
      go : (n : NodeNo) (link : Link) → LinkStands w.directions n link → (b : Bool) → (is_node n node && link.conn.0 == conn.0) ≡ b → LinkStandsBut
          (record { node = node; conn = conn } ∷ []) left n link
      go n link stands false e = inl (still link.conn link.peer n e stands)
      go n link stands true e =
          let parts = and_parts (is_node n node) (link.conn.0 == conn.0) e in
          inr (subst (λ (l : Loss). Has l (record { node = node; conn = conn } ∷ []))
          (ap (λ (m : NodeNo). record { node = m; conn = conn }) (sym (same_node n node parts.0)) ∙ ap (λ (c : ConnId). record { node = n; conn = c })
          (sym (same_conn link.conn conn parts.1))) here)

  -- where it did not, it had no link on it
  pub end_unknown : direction.known ≡ false → KnowsPeers site (after_end w node conn)
  end_unknown unknown = record {
    knows = λ n relay c from at h. known.knows n relay c from at (knows_left n c from h);
    stands = λ n relay link at h. inl (go n link (stood n link (known.stands n relay link at h)) (is_node n node && link.conn.0 == conn.0) refl);
    present = known.present;
    ended = λ loss from heard h side. elim h [ ];
  }
    where
      go : (n : NodeNo) (link : Link) → LinkStands w.directions n link → (b : Bool) → (is_node n node && link.conn.0 == conn.0) ≡ b → LinkStands left n link
      go n link stands false e = still link.conn link.peer n e stands
      go n link stands true e =
          let parts = and_parts (is_node n node) (link.conn.0 == conn.0) e in
          let here_stands : Has (conn, link.peer, node, true) (sides w.directions) =
          subst (λ (m : NodeNo). Has (conn, link.peer, m, true) (sides w.directions)) (same_node n node parts.0)
          (subst (λ (c : ConnId). Has (c, link.peer, n, true) (sides w.directions)) (same_conn link.conn conn parts.1) stands) in
          absurd (true≢false (sym (link_known link.peer here_stands) ∙ unknown))
