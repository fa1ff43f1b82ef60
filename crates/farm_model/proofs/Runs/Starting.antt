-- What holds before the first step.
use Rattle.std.proofs.Common.{◌≡◌, ℕ, ◌+◌, ◌≤◌, ◌<◌, Bool, true, false, cond, List, [], ◌∷◌, ◌++◌, length, Option, Some, inl, inr, refl, sym, subst}
use Rattle.std.proofs.Common.{ap, ◌∙◌, arith, append_assoc, ne_eqb, length-append}
use Rattle.std.specs.Prelude.{flat_map, count_by, slice_get}
use Rattle.std.proofs.lemmas.Bool.{eqb-true}
use Rattle.std.proofs.lemmas.Grind.{flat_map-append}
use Rattle.std.proofs.lemmas.List.Sums.{count_by-le-length, sum_by-append}
use Rattle.dia_base.specs.declared.node.NodeKind.{NodeKind}
use Rattle.dia_base.specs.declared.node.NodeKind.TheVariants.{Relay, Front, Client}
use Rattle.dia_base.specs.declared.number.NodeNo.{NodeNo}
use Rattle.dia_base.proofs.Counting.{one}
use Rattle.relay_core.specs.Connecting.{new_node, new_relay}
use Rattle.farm_law.specs.Farm.{Item, PendingRow}
use Rattle.farm_law.specs.Invariant.{new_farm}
use Rattle.farm_law.specs.Lists.{Has}
use Rattle.farm_law.specs.Moves.{Moves, next, done, ends}
use Rattle.farm_base.specs.declared.site.Node.{Node}
use Rattle.farm_base.specs.declared.site.Site.{Site}
use Rattle.farm_model.specs.declared.state.FrontAt.{FrontAt}
use Rattle.farm_model.specs.declared.state.RelayAt.{RelayAt}
use Rattle.farm_base.specs.Nodes.{is_node, kind_in, means_front, means_relay, name_in, name_at}
use Rattle.farm_model.specs.Run.{front_site, front_if, fronts_from, relay_if, relays_from, empty_book, start, relay_site}
use Rattle.farm_model.specs.World.{Ends, is_relay_at}
use Rattle.farm_model.proofs.Lists.Among.{Has-parts, Has-cons}
use Rattle.farm_model.proofs.Moves.AsFarm.{parties, items_at, rows_at, has_ended_in, farm_of}
use Rattle.farm_model.proofs.Clients.Hearing.{HeardIn}
use Rattle.farm_model.proofs.Lists.ListLemmas.{slice_get-behind}
use Rattle.farm_model.proofs.Moves.Restarting.{idle_hold}
use Rattle.farm_model.proofs.Wiring.Wired.{FrontIsWired, RelayIsWired, IsWired}

-- ---- nodes of the site, from a place on

module _ (site : Site) where
  -- the node at the place
  at_place : (before : List Node) (node : Node) (nodes : List Node) → site.nodes ≡ before ++ node ∷ nodes → slice_get site.nodes (length before) ≡ Some node
  at_place before node nodes e = ap (λ (all : List Node). slice_get all (length before)) e ∙ slice_get-behind before node nodes

  -- the list with one node more before the place
  one_on : (before : List Node) (node : Node) (nodes : List Node) → site.nodes ≡ before ++ node ∷ nodes → site.nodes ≡ (before ++ node ∷ []) ++ nodes
  one_on before node nodes e = e ∙ sym (append_assoc before (node ∷ []) nodes)

  place_on : (before : List Node) (node : Node) → length (before ++ node ∷ []) ≡ length before + 1
  place_on before node = length-append before (node ∷ [])

  -- ---- fronts

  front_if_wired : (before : List Node) (node : Node) (nodes : List Node) (kind : NodeKind) → site.nodes ≡ before ++ node ∷ nodes → node.kind ≡ kind →
      (at : FrontAt) → Has at (front_if site (length before) node kind) → FrontIsWired site at
  front_if_wired before node nodes Relay e k at h = elim h [ ]
  front_if_wired before node nodes Client e k at h = elim h [ ]
  front_if_wired before node nodes Front e k at h = elim (Has-cons h) [
    | inl is ↦ subst (FrontIsWired site) (sym is) (record {
      is_front = ap (λ (o : Option Node). means_front (kind_in o)) (at_place before node nodes e) ∙ ap (λ (q : NodeKind). means_front (Some q)) k;
      site_is = ap (front_site site) (sym (ap name_in (at_place before node nodes e)));
    })
    | inr none ↦ elim none [ ]
  ]

  fronts_wired : (before nodes : List Node) → site.nodes ≡ before ++ nodes → (at : FrontAt) → Has at (fronts_from site (length before) nodes) → FrontIsWired
      site at
  fronts_wired before [] e at h = elim h [ ]
  fronts_wired before (node ∷ nodes) e at h = elim (Has-parts (front_if site (length before) node node.kind) h) [
    | inl g ↦ front_if_wired before node nodes node.kind e refl at g
    | inr g ↦ fronts_wired (before ++ node ∷ []) nodes (one_on before node nodes e) at
        (subst (λ (n : ℕ). Has at (fronts_from site n nodes)) (sym (place_on before node)) g)
  ]

  no_items_if : (all : Ends) (place : ℕ) (node : Node) (kind : NodeKind) → flat_map (items_at all) (front_if site place node kind) ≡ []
  no_items_if all place node Relay = refl
  no_items_if all place node Client = refl
  no_items_if all place node Front = ap (λ (is : List Item). is ++ []) (idle_hold all (record { 0 = place }) site.workers)

  no_items : (all : Ends) (place : ℕ) (nodes : List Node) → flat_map (items_at all) (fronts_from site place nodes) ≡ []
  no_items all place [] = refl
  no_items all place (node ∷ nodes) =
      flat_map-append (items_at all) (front_if site place node node.kind) (fronts_from site (place + 1) nodes)
      ∙ ap (λ (is : List Item). is ++ flat_map (items_at all) (fronts_from site (place + 1) nodes)) (no_items_if all place node node.kind)
      ∙ no_items all (place + 1) nodes

  -- ---- relays

  relay_if_wired : (all : Ends) (before : List Node) (node : Node) (nodes : List Node) (kind : NodeKind) → site.nodes ≡ before ++ node ∷ nodes → node.kind ≡
      kind → (at : RelayAt) → Has at (relay_if site (length before) node kind) → RelayIsWired site all [] at.node at.relay
  relay_if_wired all before node nodes Front e k at h = elim h [ ]
  relay_if_wired all before node nodes Client e k at h = elim h [ ]
  relay_if_wired all before node nodes Relay e k at h = elim (Has-cons h) [
    | inl is ↦ subst (λ (a : RelayAt). RelayIsWired site all [] a.node a.relay) (sym is) (record {
      is_relay = ap (λ (o : Option Node). means_relay (kind_in o)) (at_place before node nodes e) ∙ ap (λ (q : NodeKind). means_relay (Some q)) k;
      node_is = ap (λ (name : List ℕ). new_node (relay_site site (record { 0 = length before }) name)) (sym (ap name_in (at_place before node nodes e)));
      links = λ link g. elim g [ ];
      rows = λ row g. elim g [ ];
    })
    | inr none ↦ elim none [ ]
  ]

  relays_wired : (all : Ends) (before nodes : List Node) → site.nodes ≡ before ++ nodes → (at : RelayAt) → Has at (relays_from site (length before) nodes) →
      RelayIsWired site all [] at.node at.relay
  relays_wired all before [] e at h = elim h [ ]
  relays_wired all before (node ∷ nodes) e at h = elim (Has-parts (relay_if site (length before) node node.kind) h) [
    | inl g ↦ relay_if_wired all before node nodes node.kind e refl at g
    | inr g ↦ relays_wired all (before ++ node ∷ []) nodes (one_on before node nodes e) at
        (subst (λ (n : ℕ). Has at (relays_from site n nodes)) (sym (place_on before node)) g)
  ]

  fresh_if : (before : List Node) (node : Node) (nodes : List Node) (kind : NodeKind) → site.nodes ≡ before ++ node ∷ nodes → (at : RelayAt) → Has at
      (relay_if site (length before) node kind) → at.relay ≡ new_relay (relay_site site at.node (name_at site at.node))
  fresh_if before node nodes Front e at h = elim h [ ]
  fresh_if before node nodes Client e at h = elim h [ ]
  fresh_if before node nodes Relay e at h = elim (Has-cons h) [
    | inl is ↦ subst (λ (a : RelayAt). a.relay ≡ new_relay (relay_site site a.node (name_at site a.node))) (sym is)
        (ap (λ (name : List ℕ). new_relay (relay_site site (record { 0 = length before }) name)) (sym (ap name_in (at_place before node nodes e))))
    | inr none ↦ elim none [ ]
  ]

  -- each relay is new, with the name of its node
  pub relays_fresh : (before nodes : List Node) → site.nodes ≡ before ++ nodes → (at : RelayAt) → Has at (relays_from site (length before) nodes) → at.relay ≡
      new_relay (relay_site site at.node (name_at site at.node))
  relays_fresh before [] e at h = elim h [ ]
  relays_fresh before (node ∷ nodes) e at h = elim (Has-parts (relay_if site (length before) node node.kind) h) [
    | inl g ↦ fresh_if before node nodes node.kind e at g
    | inr g ↦ relays_fresh (before ++ node ∷ []) nodes (one_on before node nodes e) at
        (subst (λ (n : ℕ). Has at (relays_from site n nodes)) (sym (place_on before node)) g)
  ]

  no_rows_if : (all : Ends) (place : ℕ) (node : Node) (kind : NodeKind) → flat_map (rows_at all) (relay_if site place node kind) ≡ []
  no_rows_if all place node Relay = refl
  no_rows_if all place node Front = refl
  no_rows_if all place node Client = refl

  no_rows : (all : Ends) (place : ℕ) (nodes : List Node) → flat_map (rows_at all) (relays_from site place nodes) ≡ []
  no_rows all place [] = refl
  no_rows all place (node ∷ nodes) =
      flat_map-append (rows_at all) (relay_if site place node node.kind) (relays_from site (place + 1) nodes)
      ∙ ap (λ (rs : List PendingRow). rs ++ flat_map (rows_at all) (relays_from site (place + 1) nodes)) (no_rows_if all place node node.kind)
      ∙ no_rows all (place + 1) nodes

  -- ---- a relay stands once: those from a place on have numbers from there on

  -- another node is none of those at this place
  other_if : (n : NodeNo) (place : ℕ) (node : Node) (kind : NodeKind) → is_node (record { 0 = place }) n ≡ false → count_by (is_relay_at n)
      (relay_if site place node kind) ≡ 0
  other_if n place node Relay other = ap one_of other
    where
      one_of : Bool → ℕ
      one_of b = 0 + cond {A = ℕ} b 1 0
  other_if n place node Front other = refl
  other_if n place node Client other = refl

  none_before : (n : NodeNo) (place : ℕ) (nodes : List Node) → n.0 < place → count_by (is_relay_at n) (relays_from site place nodes) ≡ 0
  none_before n place [] lt = refl
  none_before n place (node ∷ nodes) lt =
      let a = sum_by-append (λ (at : RelayAt). one (is_relay_at n at)) (relay_if site place node node.kind) (relays_from site (place + 1) nodes) in
      let b = other_if n place node node.kind (ne_eqb place n.0 (λ (q : place ≡ n.0). absurd (omega (arith, lt, q)))) in
      let c = none_before n (place + 1) nodes (omega (arith, lt)) in
      omega (arith, a, b, c)

  at_most_one : (n : NodeNo) (place : ℕ) (node : Node) (kind : NodeKind) → count_by (is_relay_at n) (relay_if site place node kind) ≤ 1
  at_most_one n place node Relay = count_by-le-length (is_relay_at n) (relay_if site place node Relay)
  at_most_one n place node Front = omega arith
  at_most_one n place node Client = omega arith

  one_each : (n : NodeNo) (place : ℕ) (nodes : List Node) → count_by (is_relay_at n) (relays_from site place nodes) ≤ 1
  one_each n place [] = omega arith
  one_each n place (node ∷ nodes) = go (one_each n (place + 1) nodes) (is_node (record { 0 = place }) n) refl
    where
      parts : count_by (is_relay_at n) (relays_from site place (node ∷ nodes)) ≡ count_by (is_relay_at n) (relay_if site place node node.kind) + count_by
          (is_relay_at n) (relays_from site (place + 1) nodes)
      parts = sum_by-append (λ (at : RelayAt). one (is_relay_at n at)) (relay_if site place node node.kind) (relays_from site (place + 1) nodes)

      go : count_by (is_relay_at n) (relays_from site (place + 1) nodes) ≤ 1 → (b : Bool) → is_node (record { 0 = place }) n ≡ b → count_by (is_relay_at n)
          (relays_from site place (node ∷ nodes)) ≤ 1
      go more false e = let first = other_if n place node node.kind e in let whole = parts in omega (arith, more, first, whole)
      go more true e =
          let same = eqb-true place n.0 e in
          let first = at_most_one n place node node.kind in
          let rest = none_before n (place + 1) nodes (omega (arith, same)) in
          let whole = parts in
          omega (arith, first, rest, whole)

-- ---- the whole

pub start_wired : (site : Site) (all : Ends) → IsWired site all (start site)
start_wired site all = record {
  begins = λ place nodes e. absurd cc;
  directions = λ d h. elim h [ ];
  fronts = fronts_wired site [] site.nodes refl;
  relays = relays_wired site all [] site.nodes refl;
  alone = λ n. one_each site n 0 site.nodes;
}

pub start_heard : (site : Site) (all : Ends) → HeardIn site all [] (start site)
start_heard site all = record {
  senders = λ item h. elim h [ ];
  receivers = λ item h. elim h [ ];
  terms = refl;
  limit = refl;
  sweeps = λ moment h. elim h [ ];
  changes = λ moment change h. elim h [ ];
  takes = λ moment request h. elim h [ ];
}

pub start_moves : (site : Site) (all : Ends) → Moves (parties site all) (new_farm (empty_book site)) (farm_of all [] (start site))
start_moves site all =
    subst (λ (is : List Item). Moves (parties site all) (new_farm (empty_book site)) (record (farm_of all [] (start site)) { items = is }))
    (sym (no_items site all 0 site.nodes))
    (subst (λ (rs : List PendingRow). Moves (parties site all) (new_farm (empty_book site)) (record (farm_of all [] (start site)) { items = []; rows = rs }))
    (sym (no_rows site all 0 site.nodes))
    (next (ends (has_ended_in [] []) (λ node conn e. absurd cc)) done))
