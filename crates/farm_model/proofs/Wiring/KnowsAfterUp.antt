-- A node that learns of a connection knows its peer, and the connections that stand are known as before.
use Rattle.std.proofs.Common.{◌≡◌, ◌≤◌, Bool, true, false, List, [], ◌∷◌, ◌++◌, Some, None, inl, inr, refl, sym, subst, ap, ◌∙◌, true≢false}
use Rattle.std.specs.Prelude.{◌⊎◌, not, count_by}
use Rattle.std.specs.List.{find, list_any}
use Rattle.std.proofs.lemmas.Bool.{and_parts, and_from, both_ways, not-true, false_from_ne_true}
use Rattle.dia_base.specs.declared.number.ConnId.{ConnId}
use Rattle.dia_base.specs.declared.number.NodeNo.{NodeNo}
use Rattle.dia_base.proofs.Finding.{found_passes}
use Rattle.relay_peers.specs.declared.peers.Link.{Link}
use Rattle.relay_peers.specs.PeerTable.{is_on, peer_in}
use Rattle.relay_core.specs.Connecting.{up_fault}
use Rattle.relay_core.specs.RelayState.{RelayState}
use Rattle.farm_law.specs.Lists.{Has, here}
use Rattle.farm_law.proofs.Lists.{all-end}
use Rattle.farm_base.specs.declared.site.Site.{Site}
use Rattle.farm_model.specs.declared.state.Direction.{Direction}
use Rattle.farm_model.specs.declared.state.RelayAt.{RelayAt}
use Rattle.farm_model.specs.SoundSite.{IsSound}
use Rattle.farm_model.specs.FarmStep.{next_conn, with_link_at, empty_direction, with_new_connection, can_connect}
use Rattle.farm_base.specs.Lists.{replace_first}
use Rattle.farm_base.specs.Nodes.{is_node, is_linked}
use Rattle.farm_model.specs.InFlight.{goes}
use Rattle.farm_model.specs.World.{Ends, WorldState, is_between, is_unheard, is_connected, is_relay_at, relay_at}
use Rattle.farm_model.proofs.Lists.Among.{Has-map, Has-parts, Has-cons, Has-right, Has-unmap}
use Rattle.farm_model.proofs.Lists.Finding.{Has-found, find_none, any_found, any_has}
use Rattle.farm_model.proofs.Lists.Replacing.{Has-replaced, Has-replacement, Has-beside}
use Rattle.farm_model.proofs.Wiring.Apart.{AreApart, the_one, goes_once}
use Rattle.farm_model.proofs.Wiring.Joined.{Joins-turned, Joins-other}
use Rattle.farm_model.proofs.Wiring.KnowsPeers.{LinkStands, KnowsPeers}
use Rattle.farm_model.proofs.Wiring.Linked.{linked_turned, linked_are_two}
use Rattle.farm_model.proofs.Wiring.NewLinks.{peer_before, peer_behind, conn_is_new, no_fault, IsAfterUp, relay_after_up, present_after_up}
use Rattle.farm_model.proofs.Lists.Numbering.{node_itself, same_conn}
use Rattle.farm_model.proofs.Wiring.Sides.{Side, side_of, sides, sides_left, side_connects, direction_of}
use Rattle.farm_model.proofs.Wiring.Wired.{Joins, IsWired}
use Rattle.farm_model.proofs.Wiring.WiredLemmas.{relay_wired}
use Rattle.farm_model.proofs.Wiring.WorldLemmas.{direction_nodes}

-- ---- the sides of more directions

abbrev two_directions : ConnId → NodeNo → NodeNo → List Direction
two_directions conn a b = empty_direction conn a b true ∷ empty_direction conn b a false ∷ []

pub sides_of_new : (directions : List Direction) (conn : ConnId) (a b : NodeNo) (side : Side) → Has side (sides (directions ++ two_directions conn a b)) → Has
    side (sides directions) ⊎ (((conn, a, b, true) ≡ side) ⊎ ((conn, b, a, false) ≡ side))
sides_of_new directions conn a b side h =
    let found = Has-unmap side_of (directions ++ two_directions conn a b) h in
    elim (Has-parts directions found.1) [
      | inl old ↦ inl (subst (λ (s : Side). Has s (sides directions)) found.2 (Has-map side_of old))
      | inr new ↦ elim (Has-cons new) [
        | inl one ↦ inr (inl (ap side_of (sym one) ∙ found.2))
        | inr rest ↦ elim (Has-cons rest) [
          | inl two ↦ inr (inr (ap side_of (sym two) ∙ found.2))
          | inr none ↦ elim none [ ]
        ]
      ]
    ]

-- ---- a node learns of a connection with a peer

module _ {site : Site} (w : WorldState) (known : KnowsPeers site w) (me you : NodeNo) (conn : ConnId) (directions : List Direction)
    (sound : (relay : RelayState) → relay_at me w.relays ≡ Some relay → up_fault relay you conn ≡ None)
    (fresh : (relay : RelayState) → relay_at me w.relays ≡ Some relay → find (is_on conn) relay.node.peers.links ≡ None)
    (old_ways : (c : ConnId) (from node : NodeNo) → Has (c, from, node, true) (sides directions) → Has (c, from, node, true) (sides w.directions) ⊎
    ((c ≡ conn) × (from ≡ you) × (node ≡ me)))
    (still : (c : ConnId) (from node : NodeNo) → Has (c, from, node, true) (sides w.directions) → Has (c, from, node, true) (sides directions))
    (comes : Has (conn, you, me, true) (sides directions)) where
  stood : (node : NodeNo) (relay : RelayState) (link : Link) → relay_at node w.relays ≡ Some relay → Has link relay.node.peers.links → LinkStands w.directions
      node link
  stood node relay link at h = elim (known.stands node relay link at h) [ inl stands ↦ stands | inr lost ↦ elim lost [ ] ]

  knows_then : (node : NodeNo) (found : RelayState) (c : ConnId) (from : NodeNo) → IsAfterUp me you conn w.relays node found → Has (c, from, node, true)
      (sides directions) → peer_in found.node.peers.links c ≡ Some from
  knows_then node found c from then h = elim then [
    | inl is ↦
        let relay = is.1.0 in
        let at : relay_at node w.relays ≡ Some relay = subst (λ (n : NodeNo). relay_at n w.relays ≡ Some relay) (sym is.0) is.1.1 in
        elim (old_ways c from node h) [
          | inl old ↦ ap (λ (links : List Link). peer_in links c) is.1.2 ∙ peer_before relay.node.peers.links (record { peer = you; conn = conn } ∷ []) c from
              (known.knows node relay c from at old)
          | inr new ↦ ap (peer_in found.node.peers.links) new.0 ∙ ap (λ (links : List Link). peer_in links conn) is.1.2
              ∙ peer_behind relay.node.peers.links you conn (fresh relay is.1.1) ∙ ap Some (sym new.1)
        ]
    | inr other ↦ elim (old_ways c from node h) [
      | inl old ↦ known.knows node found c from other.1 old
      | inr new ↦ absurd (both_ways (is_node me node) other.0 (ap (λ (n : NodeNo). is_node me n) new.2 ∙ node_itself me))
    ]
  ]

  stands_then : (node : NodeNo) (found : RelayState) (link : Link) → IsAfterUp me you conn w.relays node found → Has link found.node.peers.links → LinkStands
      directions node link
  stands_then node found link then h = elim then [
    | inl is ↦
        let relay = is.1.0 in
        let at : relay_at node w.relays ≡ Some relay = subst (λ (n : NodeNo). relay_at n w.relays ≡ Some relay) (sym is.0) is.1.1 in
        all-end (λ (l : Link). LinkStands directions node l) relay.node.peers.links (record { peer = you; conn = conn })
        (λ l old. still l.conn l.peer node (stood node relay l at old)) (subst (λ (n : NodeNo). Has (conn, you, n, true) (sides directions)) (sym is.0) comes)
        link (subst (λ (links : List Link). Has link links) is.1.2 h)
    | inr other ↦ still link.conn link.peer node (stood node found link other.1 h)
  ]

  pub peer_known : (after : WorldState) → after.directions ≡ directions → after.relays ≡ with_link_at me you conn w.relays → KnowsPeers site after
  peer_known after directions_are relays_are = record {
    knows = λ node found c from e h. knows_then node found c from
        (relay_after_up me you conn w.relays sound node found (subst (λ (rs : List RelayAt). relay_at node rs ≡ Some found) relays_are e))
        (subst (λ (ds : List Direction). Has (c, from, node, true) (sides ds)) directions_are h);
    stands = λ node found link e h. inl (subst (λ (ds : List Direction). LinkStands ds node link) (sym directions_are) (stands_then node found link
        (relay_after_up me you conn w.relays sound node found (subst (λ (rs : List RelayAt). relay_at node rs ≡ Some found) relays_are e)) h));
    present = λ node is. ap (list_any (is_relay_at node)) relays_are ∙ present_after_up me you conn w.relays node ∙ known.present node is;
    ended = λ loss from heard h side. elim h [ ];
  }

-- ---- the node that a new connection is opened to

module _ {site : Site} {ends : Ends} (checked : IsSound site) (w : WorldState) (wired : IsWired site ends w) (known : KnowsPeers site w) (a b : NodeNo) where
  abbrev conn : ConnId
  conn = next_conn w

  -- the site links the two nodes, and there was no connection between them
  pub accept_knows : can_connect site w a b ≡ true → KnowsPeers site (with_new_connection w a b)
  accept_knows can =
      let parts = and_parts (is_linked site a b) (not (is_connected w.directions a b)) can in
      let free = not-true (is_connected w.directions a b) parts.1 in
      peer_known w known b a conn (w.directions ++ two_directions conn a b)
      (λ relay at. no_fault checked w wired b a conn relay at (linked_turned site a b parts.0) (λ link h same. not_free free relay link at h same)
      (conn_is_new checked w wired b relay at)) (λ relay at. conn_is_new checked w wired b relay at) ways
      (λ c from node h. sides_left w.directions (two_directions conn a b) h) (Has-map side_of (Has-right w.directions here))
      (with_new_connection w a b) refl refl
    where
      not_free : is_connected w.directions a b ≡ false → (relay : RelayState) (link : Link) → relay_at b w.relays ≡ Some relay → Has link
          relay.node.peers.links → link.peer ≡ a → ⊥
      not_free free relay link at h same = elim (known.stands b relay link at h) [
        | inl stands ↦ both_ways (is_connected w.directions a b) free
            (side_connects w.directions link.conn a b true (subst (λ (n : NodeNo). Has (link.conn, n, b, true) (sides w.directions)) same stands)).0
        | inr lost ↦ elim lost [ ]
      ]

      ways : (c : ConnId) (from node : NodeNo) → Has (c, from, node, true) (sides (w.directions ++ two_directions conn a b)) → Has (c, from, node, true)
          (sides w.directions) ⊎ ((c ≡ conn) × (from ≡ a) × (node ≡ b))
      ways c from node h = elim (sides_of_new w.directions conn a b (c, from, node, true) h) [
        | inl old ↦ inl old
        | inr new ↦ elim new [
          | inl one ↦ inr (ap (λ (s : Side). s.0) (sym one), ap (λ (s : Side). s.1) (sym one), ap (λ (s : Side). s.2) (sym one))
          | inr two ↦ absurd (true≢false (ap (λ (s : Side). s.3) (sym two)))
        ]
      ]

-- ---- the node that has opened it

-- of a list in which one item at most passes, two that do are the same
pub same_one : {A : Type 0} (test : A → Bool) (xs : List A) → count_by test xs ≤ 1 → {x y : A} → Has x xs → Has y xs → test x ≡ true → test y ≡ true → x ≡ y
same_one test xs most h g e f =
    let found = any_found test xs (any_has test h e) in
    the_one test found.0 xs most found.1 h e ∙ sym (the_one test found.0 xs most found.1 g f)

module _ {site : Site} (w : WorldState) (known : KnowsPeers site w) (a b : NodeNo) (direction : Direction)
    (found : find (is_unheard b a) w.directions ≡ Some direction) where
  abbrev pub learned : Direction
  learned = record direction { known = true }

  abbrev pub then : List Direction
  then = replace_first (is_unheard b a) learned w.directions

  pub among : Has direction w.directions
  among = Has-found (is_unheard b a) w.directions found

  pub parts : (is_between b a direction ≡ true) × (not direction.known ≡ true)
  parts = and_parts (is_between b a direction) (not direction.known) (found_passes (is_unheard b a) w.directions direction found)

  pub nodes : (direction.from ≡ b) × (direction.to ≡ a)
  nodes = direction_nodes b a direction parts.0

  pub unknown : direction.known ≡ false
  unknown = not-true direction.known parts.1

  ways : (c : ConnId) (from node : NodeNo) → Has (c, from, node, true) (sides then) → Has (c, from, node, true) (sides w.directions) ⊎
      ((c ≡ direction.conn) × (from ≡ b) × (node ≡ a))
  ways c from node h =
      let of = direction_of then (c, from, node, true) h in
      elim (Has-replaced (is_unheard b a) learned w.directions of.among) [
        | inl is ↦
            let side_is : side_of learned ≡ (c, from, node, true) = ap side_of (sym is) ∙ of.side_is in
            inr (sym (ap (λ (s : Side). s.0) side_is), sym (ap (λ (s : Side). s.1) side_is) ∙ nodes.0, sym (ap (λ (s : Side). s.2) side_is) ∙ nodes.1)
        | inr old ↦ inl (subst (λ (s : Side). Has s (sides w.directions)) of.side_is (Has-map side_of old))
      ]

  still : (c : ConnId) (from node : NodeNo) → Has (c, from, node, true) (sides w.directions) → Has (c, from, node, true) (sides then)
  still c from node h =
      let of = direction_of w.directions (c, from, node, true) h in
      elim (Has-beside (is_unheard b a) direction learned w.directions found of.among) [
        | inl is ↦ absurd (true≢false (sym (ap (λ (s : Side). s.3) of.side_is) ∙ ap (λ (d : Direction). d.known) is ∙ unknown))
        | inr kept ↦ subst (λ (s : Side). Has s (sides then)) of.side_is (Has-map side_of kept)
      ]

  comes : Has (direction.conn, b, a, true) (sides then)
  comes = subst (λ (s : Side). Has s (sides then)) (ap (λ (n : NodeNo). (direction.conn, n, direction.to, true)) nodes.0 ∙ ap
      (λ (n : NodeNo). (direction.conn, b, n, true)) nodes.1) (Has-map side_of (Has-replacement (is_unheard b a) direction learned w.directions found))

  pub opened_by : ((relay : RelayState) → relay_at a w.relays ≡ Some relay → up_fault relay b direction.conn ≡ None)
      → ((relay : RelayState) → relay_at a w.relays ≡ Some relay → find (is_on direction.conn) relay.node.peers.links ≡ None)
      → (after : WorldState) → after.directions ≡ then → after.relays ≡ with_link_at a b direction.conn w.relays → KnowsPeers site after
  opened_by sound fresh = peer_known w known a b direction.conn then sound fresh ways still comes

module _ {site : Site} {ends : Ends} (checked : IsSound site) (w : WorldState) (wired : IsWired site ends w) (known : KnowsPeers site w)
    (apart : AreApart (sides w.directions)) (a b : NodeNo) (direction : Direction) (found : find (is_unheard b a) w.directions ≡ Some direction) where
  here_is : Has direction w.directions
  here_is = among w known a b direction found

  its_nodes : (direction.from ≡ b) × (direction.to ≡ a)
  its_nodes = nodes w known a b direction found

  -- no way that is known goes there
  no_other : (c : ConnId) → Has (c, b, a, true) (sides w.directions) → ⊥
  no_other c h =
      let of = direction_of w.directions (c, b, a, true) h in
      let from_is : of.direction.from ≡ b = ap (λ (s : Side). s.1) of.side_is in
      let to_is : of.direction.to ≡ a = ap (λ (s : Side). s.2) of.side_is in
      let known_is : of.direction.known ≡ true = ap (λ (s : Side). s.3) of.side_is in
      let goes_there : goes b a of.direction ≡ true =
      and_from (is_node of.direction.from b) (is_node of.direction.to a) (ap (λ (n : NodeNo). is_node n b) from_is ∙ node_itself b)
      (ap (λ (n : NodeNo). is_node n a) to_is ∙ node_itself a) in
      let same : of.direction ≡ direction = same_one (goes b a) w.directions (goes_once w.directions apart b a)
      of.among here_is goes_there (parts w known a b direction found).0 in
      true≢false (sym known_is ∙ ap (λ (d : Direction). d.known) same ∙ unknown w known a b direction found)

  its_joins : Joins ends direction.conn a b
  its_joins = Joins-turned (subst (λ (n : NodeNo). Joins ends direction.conn b n) its_nodes.1
      (subst (λ (n : NodeNo). Joins ends direction.conn n direction.to) its_nodes.0 (wired.directions direction here_is).joins))

  linked : is_linked site a b ≡ true
  linked = linked_turned site b a (subst (λ (n : NodeNo). is_linked site b n ≡ true) its_nodes.1
      (subst (λ (n : NodeNo). is_linked site n direction.to ≡ true) its_nodes.0 (wired.directions direction here_is).linked))

  not_up : (relay : RelayState) (link : Link) → relay_at a w.relays ≡ Some relay → Has link relay.node.peers.links → link.peer ≡ b → ⊥
  not_up relay link at h same = elim (known.stands a relay link at h) [
    | inl stands ↦ no_other link.conn (subst (λ (n : NodeNo). Has (link.conn, n, a, true) (sides w.directions)) same stands)
    | inr lost ↦ elim lost [ ]
  ]

  not_on : (relay : RelayState) → relay_at a w.relays ≡ Some relay → find (is_on direction.conn) relay.node.peers.links ≡ None
  not_on relay at = find_none (is_on direction.conn) relay.node.peers.links (λ link h. false_from_ne_true (is_on direction.conn link) (λ on.
      let conn_is : link.conn ≡ direction.conn = same_conn link.conn direction.conn on in
      let theirs : Joins ends direction.conn a link.peer =
      subst (λ (c : ConnId). Joins ends c a link.peer) conn_is ((relay_wired wired.relays at).links link h).joins in
      not_up relay link at h (sym (Joins-other theirs) ∙ Joins-other its_joins)))

  pub opened_knows : (after : WorldState) → after.directions ≡ then w known a b direction found → after.relays ≡ with_link_at a b direction.conn w.relays →
      KnowsPeers site after
  opened_knows = opened_by w known a b direction found
      (λ relay at. no_fault checked w wired a b direction.conn relay at linked (λ link h same. not_up relay link at h same) (not_on relay at)) not_on

-- ---- one right after the other

module _ {site : Site} {ends : Ends} (checked : IsSound site) (w : WorldState) (wired : IsWired site ends w) (known : KnowsPeers site w) (a b : NodeNo)
    (can : can_connect site w a b ≡ true) where
  abbrev v : WorldState
  v = with_new_connection w a b

  pub known_then : KnowsPeers site v
  known_then = accept_knows checked w wired known a b can

  linked_so : is_linked site a b ≡ true
  linked_so = (and_parts (is_linked site a b) (not (is_connected w.directions a b)) can).0

  free_so : is_connected w.directions a b ≡ false
  free_so = not-true (is_connected w.directions a b) (and_parts (is_linked site a b) (not (is_connected w.directions a b)) can).1

  -- the relay that opens it was the same before the other one learned
  was_so : (relay : RelayState) → relay_at a v.relays ≡ Some relay → relay_at a w.relays ≡ Some relay
  was_so relay e = elim (relay_after_up b a (next_conn w) w.relays (λ r at. no_fault checked w wired b a (next_conn w) r at (linked_turned site a b linked_so)
      (λ link h same. taken r link at h same) (conn_is_new checked w wired b r at)) a relay e) [
        | inl is ↦ absurd (both_ways (is_node a b) (linked_are_two checked a b linked_so).apart (ap (λ (n : NodeNo). is_node n b) is.0 ∙ node_itself b))
        | inr is ↦ is.1
      ]
    where
      taken : (r : RelayState) (link : Link) → relay_at b w.relays ≡ Some r → Has link r.node.peers.links → link.peer ≡ a → ⊥
      taken r link at h same = elim (known.stands b r link at h) [
        | inl stands ↦ both_ways (is_connected w.directions a b) free_so
            (side_connects w.directions link.conn a b true (subst (λ (n : NodeNo). Has (link.conn, n, b, true) (sides w.directions)) same stands)).0
        | inr lost ↦ elim lost [ ]
      ]

  -- what it learns of is the new one
  new_one : (direction : Direction) → find (is_unheard b a) v.directions ≡ Some direction → direction.conn ≡ next_conn w
  new_one direction e =
      let goes_there = heard_parts direction e in
      elim (sides_of_new w.directions (next_conn w) a b (side_of direction) (Has-map side_of (Has-found (is_unheard b a) v.directions e))) [
        | inl old ↦ absurd (both_ways (is_connected w.directions a b) free_so (side_connects w.directions direction.conn b a direction.known
            (subst (λ (n : NodeNo). Has (direction.conn, b, n, direction.known) (sides w.directions)) goes_there.1
            (subst (λ (n : NodeNo). Has (direction.conn, n, direction.to, direction.known) (sides w.directions)) goes_there.0 old))).1)
        | inr new ↦ elim new [ inl one ↦ sym (ap (λ (s : Side). s.0) one) | inr two ↦ sym (ap (λ (s : Side). s.0) two) ]
      ]
    where
      heard_parts : (direction : Direction) → find (is_unheard b a) v.directions ≡ Some direction → (direction.from ≡ b) × (direction.to ≡ a)
      heard_parts direction e = nodes v known_then a b direction e

  pub up_opened_knows : (direction : Direction) (found : find (is_unheard b a) v.directions ≡ Some direction) (after : WorldState) → after.directions ≡
      then v known_then a b direction found → after.relays ≡ with_link_at a b direction.conn v.relays → KnowsPeers site after
  up_opened_knows direction found = opened_by v known_then a b direction found
      (λ relay at. subst (λ (c : ConnId). up_fault relay b c ≡ None) (sym (new_one direction found))
      (no_fault checked w wired a b (next_conn w) relay (was_so relay at) linked_so (λ link h same. taken relay link (was_so relay at) h same)
      (conn_is_new checked w wired a relay (was_so relay at))))
      (λ relay at. subst (λ (c : ConnId). find (is_on c) relay.node.peers.links ≡ None) (sym (new_one direction found))
      (conn_is_new checked w wired a relay (was_so relay at)))
    where
      taken : (r : RelayState) (link : Link) → relay_at a w.relays ≡ Some r → Has link r.node.peers.links → link.peer ≡ b → ⊥
      taken r link at h same = elim (known.stands a r link at h) [
        | inl stands ↦ both_ways (is_connected w.directions a b) free_so
            (side_connects w.directions link.conn b a true (subst (λ (n : NodeNo). Has (link.conn, n, a, true) (sides w.directions)) same stands)).1
        | inr lost ↦ elim lost [ ]
      ]
