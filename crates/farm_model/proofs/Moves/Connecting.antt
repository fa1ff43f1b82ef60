-- A new connection, and that the node which has opened it learns of it: nothing moves, and the farm hangs together.
use Rattle.std.proofs.Common.{◌≡◌, ℕ, ◌+◌, ◌-◌, ◌≤◌, ◌<◌, Bool, true, false, cond, not, List, [], ◌∷◌, ◌++◌, length, Option, Some, None, inl, inr}
use Rattle.std.proofs.Common.{refl, sym, subst, ap, ◌∙◌, arith, append-nil, le-leb, leb-true, ne_eqb, length-append}
use Rattle.std.specs.Prelude.{◌&&◌, ◌||◌, ◌==◌, nat_le, flat_map, count_by, map, slice_get}
use Rattle.std.specs.List.{find, list_any}
use Rattle.std.proofs.lemmas.Bool.{and_parts}
use Rattle.std.proofs.Math.Bool.{and-false}
use Rattle.std.proofs.lemmas.Grind.{flat_map-append}
use Rattle.std.proofs.lemmas.List.Folds.{list_any-append}
use Rattle.dia_base.specs.declared.number.ConnId.{ConnId}
use Rattle.dia_base.specs.declared.number.NodeNo.{NodeNo}
use Rattle.front_core.specs.FrontState.{FrontState, is_among}
use Rattle.front_core.specs.FrontStep.{with_connection}
use Rattle.relay_core.specs.declared.error.RelayError.{RelayError}
use Rattle.relay_core.specs.Connecting.{up_fault}
use Rattle.relay_core.specs.RelayState.{RelayState}
use Rattle.farm_law.specs.Farm.{Item, PendingRow, Refused}
use Rattle.farm_law.specs.Lists.{Has}
use Rattle.farm_law.specs.Moves.{Moves, next, done, ends}
use Rattle.farm_law.proofs.Lists.{all-end}
use Rattle.dia_base.proofs.Finding.{found_passes}
use Rattle.farm_base.specs.declared.site.Site.{Site}
use Rattle.farm_model.specs.declared.state.Direction.{Direction}
use Rattle.farm_model.specs.declared.state.FrontAt.{FrontAt}
use Rattle.farm_model.specs.declared.state.RelayAt.{RelayAt}
use Rattle.farm_model.specs.SoundSite.{IsSound}
use Rattle.farm_model.specs.FarmStep.{next_conn, with_connection_of, with_connection_at, after_up_by, with_link_of, with_link_at, empty_direction}
use Rattle.farm_model.specs.FarmStep.{with_new_connection}
use Rattle.farm_base.specs.Lists.{replace_first}
use Rattle.farm_base.specs.Nodes.{is_node, is_linked, joins}
use Rattle.farm_model.specs.World.{Ends, WorldState, is_on, is_inward, is_unheard, front_at, is_relay_at, relay_at}
use Rattle.farm_model.proofs.Lists.Among.{Has-parts, Has-cons}
use Rattle.farm_model.proofs.Moves.AsFarm.{parties, flights, flights_in, items_at, items_of, rows_of, has_ended_in, farm_of, LeadsTo}
use Rattle.farm_model.proofs.Wiring.Joined.{Joins-turned}
use Rattle.farm_model.proofs.Wiring.Linked.{linked_are_two, linked_turned}
use Rattle.farm_model.proofs.OwnCauses.Refusing.{at_most_once, as_before}
use Rattle.farm_model.proofs.Lists.ListLemmas.{slice_get-behind}
use Rattle.farm_model.proofs.Lists.Finding.{Has-found}
use Rattle.farm_model.proofs.Lists.Numbering.{nodes_turned}
use Rattle.farm_model.proofs.Lists.Placing.{parts_same}
use Rattle.farm_model.proofs.Lists.Replacing.{Has-replaced, map_replaced}
use Rattle.farm_model.proofs.Wiring.Ending.{same_ended}
use Rattle.farm_model.proofs.Wiring.Sides.{way_of, same_ways_inward}
use Rattle.farm_model.proofs.Wiring.WorldLemmas.{direction_nodes, unheard_between}
use Rattle.farm_model.proofs.Wiring.Wired.{Joins, DirectionIsWired, FrontIsWired, LinkIsWired, RelayIsWired, IsWired}
use Rattle.farm_model.proofs.Wiring.WiredLemmas.{same_items, same_rows, relay_wired, relays_wired, relays_alone, direction_later, relay_later, with_front_wired}

-- ---- the nodes that learn

module _ (site : Site) (all : Ends) where
  connected_items : (node : NodeNo) (conn : ConnId) (fronts : List FrontAt) (front : Option FrontState) → front_at node fronts ≡ front → flat_map
      (items_at all) (with_connection_of node conn fronts front) ≡ flat_map (items_at all) fronts
  connected_items node conn fronts None e = refl
  connected_items node conn fronts (Some front) e = same_items all node fronts front (with_connection front conn) e (go (is_among front.connections conn))
      (go_workers (is_among front.connections conn))
    where
      go : (b : Bool) → (cond b front (record front { connections = front.connections ++ conn ∷ [] })).queue ≡ front.queue
      go true = refl
      go false = refl

      go_workers : (b : Bool) → (cond b front (record front { connections = front.connections ++ conn ∷ [] })).workers ≡ front.workers
      go_workers true = refl
      go_workers false = refl

  connected_fronts : (node : NodeNo) (conn : ConnId) (fronts : List FrontAt) (front : Option FrontState) → front_at node fronts ≡ front →
      ((at : FrontAt) → Has at fronts → FrontIsWired site at) → (at : FrontAt) → Has at (with_connection_of node conn fronts front) → FrontIsWired site at
  connected_fronts node conn fronts None e wired = wired
  connected_fronts node conn fronts (Some front) e wired =
      with_front_wired site node fronts front (with_connection front conn) e (go (is_among front.connections conn)) wired
    where
      go : (b : Bool) → (cond b front (record front { connections = front.connections ++ conn ∷ [] })).site ≡ front.site
      go true = refl
      go false = refl

  linked_rows : (node peer : NodeNo) (conn : ConnId) (relays : List RelayAt) (relay : Option RelayState) → relay_at node relays ≡ relay → rows_of all
      (with_link_of node peer conn relays relay) ≡ rows_of all relays
  linked_rows node peer conn relays None e = refl
  linked_rows node peer conn relays (Some relay) e = same_rows all node relays relay (after_up_by relay peer conn (up_fault relay peer conn)) e
      (go (up_fault relay peer conn))
    where
      go : (fault : Option RelayError) → (after_up_by relay peer conn fault).pending.rows ≡ relay.pending.rows
      go None = refl
      go (Some fault) = refl

  linked_alone : (node peer : NodeNo) (conn : ConnId) (relays : List RelayAt) (relay : Option RelayState) → relay_at node relays ≡ relay →
      ((n : NodeNo) → count_by (is_relay_at n) relays ≤ 1) → (n : NodeNo) → count_by (is_relay_at n) (with_link_of node peer conn relays relay) ≤ 1
  linked_alone node peer conn relays None e alone = alone
  linked_alone node peer conn relays (Some relay) e alone = relays_alone relays node relay (after_up_by relay peer conn (up_fault relay peer conn)) e alone

  linked_relay : (made : Ends) (node peer : NodeNo) (conn : ConnId) (relay : RelayState) (fault : Option RelayError) → Joins all conn node peer → conn.0 ≤
      length made → RelayIsWired site all made node relay → RelayIsWired site all made node (after_up_by relay peer conn fault)
  linked_relay made node peer conn relay (Some fault) joins below k = k
  linked_relay made node peer conn relay None joins below k = record {
    is_relay = k.is_relay;
    node_is = k.node_is;
    links = all-end (LinkIsWired all made node) relay.node.peers.links (record { peer = peer; conn = conn }) k.links (record { joins = joins; below = below });
    rows = k.rows;
  }

  linked_relays : (made : Ends) (node peer : NodeNo) (conn : ConnId) (relays : List RelayAt) (relay : Option RelayState) → relay_at node relays ≡ relay → Joins
      all conn node peer → conn.0 ≤ length made → ((at : RelayAt) → Has at relays → RelayIsWired site all made at.node at.relay)
      → (at : RelayAt) → Has at (with_link_of node peer conn relays relay) → RelayIsWired site all made at.node at.relay
  linked_relays made node peer conn relays None e joins below wired = wired
  linked_relays made node peer conn relays (Some relay) e joins below wired =
      relays_wired node (after_up_by relay peer conn (up_fault relay peer conn)) wired
      (linked_relay made node peer conn relay (up_fault relay peer conn) joins below (relay_wired wired e))

-- ---- which connections have ended

other_conn : (a b : ℕ) → a < b → (b == a) ≡ false
other_conn a b lt = ne_eqb b a (λ (e : b ≡ a). absurd (omega arith))

still_ended : (w : WorldState) (a b node : NodeNo) (conn : ConnId) → has_ended_in w.ends w.directions node conn ≡ true → has_ended_in
    (with_new_connection w a b).ends (with_new_connection w a b).directions node conn ≡ true
still_ended w a b node conn e =
    let one = and_parts (nat_le 1 conn.0 && nat_le conn.0 (length w.ends)) (not (list_any (is_inward node conn) w.directions)) e in
    let two = and_parts (nat_le 1 conn.0) (nat_le conn.0 (length w.ends)) one.0 in
    let most : conn.0 ≤ length w.ends = leb-true conn.0 (length w.ends) two.1 in
    let more : length w.ends ≤ length (w.ends ++ (a, b) ∷ []) = (let l = length-append w.ends ((a, b) ∷ []) in omega (arith, l)) in
    let new : is_on conn (empty_direction (next_conn w) a b true) ≡ false = other_conn conn.0 (length w.ends + 1) (omega (arith, most)) in
    let none : list_any (is_inward node conn) (w.directions ++ empty_direction (next_conn w) a b true ∷ empty_direction (next_conn w) b a false ∷ []) ≡ list_any
    (is_inward node conn) w.directions =
    list_any-append (is_inward node conn) w.directions _
    ∙ ap (λ (c : Bool). list_any (is_inward node conn) w.directions || ((is_node b node && c) || ((is_node a node && c) || false))) new
    ∙ ap (λ (c : Bool). list_any (is_inward node conn) w.directions || (c || ((is_node a node && false) || false))) (and-false (is_node b node))
    ∙ ap (λ (c : Bool). list_any (is_inward node conn) w.directions || (false || (c || false))) (and-false (is_node a node))
    ∙ or_false (list_any (is_inward node conn) w.directions) in
    both two.0 (le-leb conn.0 (length (w.ends ++ (a, b) ∷ [])) (omega (arith, most, more))) (ap not none ∙ one.1)
  where
    or_false : (b : Bool) → (b || (false || (false || false))) ≡ b
    or_false true = refl
    or_false false = refl

    both : {p q r : Bool} → p ≡ true → q ≡ true → r ≡ true → (p && q && r) ≡ true
    both {p} {q} {r} e f g = ap (λ (z : Bool). z && q && r) e ∙ ap (λ (z : Bool). z && r) f ∙ g

-- ---- the whole

module _ (site : Site) (all : Ends) (checked : IsSound site) (w : WorldState) (a b : NodeNo) (wired : IsWired site all w) (linked : is_linked site a b ≡ true)
    (begins : (place : ℕ) (nodes : NodeNo × NodeNo) → slice_get (with_new_connection w a b).ends place ≡ Some nodes → slice_get all place ≡ Some nodes) where
  abbrev conn : ConnId
  conn = next_conn w

  abbrev new : WorldState
  new = with_new_connection w a b

  more : length w.ends ≤ length new.ends
  more = let l = length-append w.ends ((a, b) ∷ []) in omega (arith, l)

  below : conn.0 ≤ length new.ends
  below = let l = length-append w.ends ((a, b) ∷ []) in omega (arith, l)

  last_end : (before : Ends) (nodes : NodeNo × NodeNo) → slice_get (before ++ nodes ∷ []) (length before + 1 - 1) ≡ Some nodes
  last_end before nodes = ap (slice_get (before ++ nodes ∷ [])) place ∙ slice_get-behind before nodes []
    where
      place : length before + 1 - 1 ≡ length before
      place = omega arith

  joined : Joins all conn a b
  joined =
      let apart = (linked_are_two checked a b linked).apart in
      record {
        numbered = omega arith;
        nodes = (a, b);
        made = begins (length w.ends + 1 - 1) (a, b) (last_end w.ends (a, b));
        pair = inl refl;
        apart = apart;
        apart_turned = nodes_turned a b apart;
      }

  pub accept_wired : IsWired site all new
  accept_wired = record {
    begins = begins;
    directions = λ d h. elim (Has-parts w.directions h) [
      | inl g ↦ direction_later more (wired.directions d g)
      | inr g ↦ elim (Has-cons g) [
        | inl e ↦ subst (DirectionIsWired site all new.ends) (sym e) (record { joins = joined; below = below; linked = linked })
        | inr f ↦ elim (Has-cons f) [
          | inl e ↦ subst (DirectionIsWired site all new.ends) (sym e)
              (record { joins = Joins-turned joined; below = below; linked = linked_turned site a b linked })
          | inr k ↦ elim k [ ]
        ]
      ]
    ];
    fronts = connected_fronts site all b conn w.fronts (front_at b w.fronts) refl wired.fronts;
    relays = linked_relays site all new.ends b a conn w.relays (relay_at b w.relays) refl (Joins-turned joined) below
        (λ at h. relay_later more (wired.relays at h));
    alone = linked_alone site all b a conn w.relays (relay_at b w.relays) refl wired.alone;
  }

  accept_flights : flights_in new.directions ≡ flights_in w.directions
  accept_flights = flat_map-append flights w.directions _ ∙ append-nil (flights_in w.directions)

  accept_items : items_of all new.directions new.fronts ≡ items_of all w.directions w.fronts
  accept_items =
      ap (λ (is : List Item). is ++ flat_map (items_at all) new.fronts) accept_flights
      ∙ ap (λ (is : List Item). flights_in w.directions ++ is) (connected_items site all b conn w.fronts (front_at b w.fronts) refl)

  accept_rows : rows_of all new.relays ≡ rows_of all w.relays
  accept_rows = linked_rows site all b a conn w.relays (relay_at b w.relays) refl

  pub accept_moves : (refused : List Refused) → Moves (parties site all) (farm_of all refused w) (farm_of all refused new)
  accept_moves refused =
      subst (λ (is : List Item). Moves (parties site all) (farm_of all refused w) (record (farm_of all refused new) { items = is })) (sym accept_items)
      (subst (λ (rs : List PendingRow). Moves (parties site all) (farm_of all refused w)
      (record (farm_of all refused new) { items = items_of all w.directions w.fronts; rows = rs })) (sym accept_rows)
      (next (ends (has_ended_in new.ends new.directions) (still_ended w a b)) done))

  pub accept_leads : (HasReason : Refused → Type 0) (refused : List Refused) → LeadsTo (parties site all) all HasReason at_most_once (farm_of all refused w) new
  accept_leads HasReason refused = record { refused = refused; moves = accept_moves refused; caused = as_before HasReason refused }

-- ---- the node that has opened it learns

module _ (site : Site) (all : Ends) (w : WorldState) (a b : NodeNo) (direction : Direction) (found : find (is_unheard b a) w.directions ≡ Some direction)
    (wired : IsWired site all w) where
  abbrev known : Direction
  known = record direction { known = true }

  abbrev opened : WorldState
  opened = record w {
    directions = replace_first (is_unheard b a) known w.directions;
    fronts = with_connection_at a direction.conn w.fronts;
    relays = with_link_at a b direction.conn w.relays;
  }

  among : Has direction w.directions
  among = Has-found (is_unheard b a) w.directions found

  ends_of_it : (direction.from ≡ b) × (direction.to ≡ a)
  ends_of_it = direction_nodes b a direction (unheard_between b a direction (found_passes (is_unheard b a) w.directions direction found))

  its : DirectionIsWired site all w.ends direction
  its = wired.directions direction among

  opened_joins : Joins all direction.conn a b
  opened_joins = Joins-turned (subst (λ (n : NodeNo). Joins all direction.conn b n) ends_of_it.1
      (subst (λ (n : NodeNo). Joins all direction.conn n direction.to) ends_of_it.0 its.joins))

  pub opened_wired : IsWired site all opened
  opened_wired = record {
    begins = wired.begins;
    directions = λ d h. elim (Has-replaced (is_unheard b a) known w.directions h) [
      | inl is ↦ subst (DirectionIsWired site all w.ends) (sym is) (record { joins = its.joins; below = its.below; linked = its.linked })
      | inr g ↦ wired.directions d g
    ];
    fronts = connected_fronts site all a direction.conn w.fronts (front_at a w.fronts) refl wired.fronts;
    relays = linked_relays site all w.ends a b direction.conn w.relays (relay_at a w.relays) refl opened_joins its.below wired.relays;
    alone = linked_alone site all a b direction.conn w.relays (relay_at a w.relays) refl wired.alone;
  }

  same_flights : flights_in opened.directions ≡ flights_in w.directions
  same_flights = parts_same flights (is_unheard b a) {x = direction} {y = known} refl w.directions found

  opened_items : items_of all opened.directions opened.fronts ≡ items_of all w.directions w.fronts
  opened_items =
      ap (λ (is : List Item). is ++ flat_map (items_at all) opened.fronts) same_flights
      ∙ ap (λ (is : List Item). flights_in w.directions ++ is) (connected_items site all a direction.conn w.fronts (front_at a w.fronts) refl)

  same_ways : map way_of opened.directions ≡ map way_of w.directions
  same_ways = map_replaced way_of (is_unheard b a) direction known w.directions found refl

  pub opened_moves : (refused : List Refused) → Moves (parties site all) (farm_of all refused w) (farm_of all refused opened)
  opened_moves refused =
      subst (λ (is : List Item). Moves (parties site all) (farm_of all refused w) (record (farm_of all refused opened) { items = is })) (sym opened_items)
      (subst (λ (rs : List PendingRow). Moves (parties site all) (farm_of all refused w)
      (record (farm_of all refused opened) { items = items_of all w.directions w.fronts; rows = rs }))
      (sym (linked_rows site all a b direction.conn w.relays (relay_at a w.relays) refl))
      (next (ends (has_ended_in w.ends opened.directions)
      (λ n c e. same_ended w.ends w.directions opened.directions n c (same_ways_inward w.directions opened.directions n c same_ways) ∙ e)) done))

  pub opened_leads : (HasReason : Refused → Type 0) (refused : List Refused) → LeadsTo (parties site all) all HasReason at_most_once (farm_of all refused w)
      opened
  opened_leads HasReason refused = record { refused = refused; moves = opened_moves refused; caused = as_before HasReason refused }
