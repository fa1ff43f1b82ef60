-- The rows of one relay among those of all, and which identifiers they use.
use Rattle.std.proofs.Common.{◌≡◌, ℕ, ◌≤◌, Bool, true, false, List, [], ◌∷◌, ◌++◌, map, Some, None, inl, inr, refl, sym, subst, ap, ◌∙◌, arith, eq-eqb}
use Rattle.std.specs.Prelude.{◌&&◌, ◌==◌, count_by}
use Rattle.std.proofs.lemmas.Bool.{and_parts, eqb-true, and_left, and_right}
use Rattle.std.proofs.lemmas.Grind.{flat_map-append}
use Rattle.dia_base.specs.declared.number.ConnId.{ConnId}
use Rattle.dia_base.specs.declared.number.NodeNo.{NodeNo}
use Rattle.dia_base.proofs.Counting.{one, count-cons}
use Rattle.dia_base.proofs.Finding.{found_passes}
use Rattle.relay_hops.specs.declared.row.Held.{Held}
use Rattle.relay_hops.specs.declared.row.Row.{Row}
use Rattle.relay_hops.specs.PendingTable.{hop_of, is_sent_on, has_key, held_at, IsWith}
use Rattle.relay_core.specs.RelayState.{RelayState}
use Rattle.farm_law.specs.Counts.{with_hop, row_in}
use Rattle.farm_law.specs.Farm.{PendingRow}
use Rattle.farm_law.specs.Lists.{Has, here, there, Without}
use Rattle.farm_law.proofs.Lists.{count-has}
use Rattle.farm_model.specs.declared.state.RelayAt.{RelayAt}
use Rattle.farm_base.specs.Nodes.{is_node}
use Rattle.farm_model.specs.World.{Ends, is_relay_at, with_relay, relay_at}
use Rattle.farm_model.proofs.Lists.Among.{Has-unmap, Has-parts, Has-right}
use Rattle.farm_model.proofs.Moves.AsFarm.{pending_of, rows_at, rows_of}
use Rattle.farm_model.proofs.Lists.Finding.{none_pass, does_not_pass, not_found, found_mapped, none_mapped}
use Rattle.farm_model.proofs.Lists.Placing.{Without-map, Without-left, Without-right, Without-middle}
use Rattle.farm_model.proofs.Lists.Replacing.{parted}
use Rattle.farm_model.proofs.Wiring.WorldLemmas.{relay_stands}

-- ---- the rows of a relay, between those of the others

pub record RowsStand (ends : Ends) (node : NodeNo) (relays : List RelayAt) (relay : RelayState) : Type 0 where
  pub front : List PendingRow
  pub back : List PendingRow
  pub now : rows_of ends relays ≡ front ++ (map (pending_of ends node) relay.pending.rows ++ back)
  pub change : (next : RelayState) → rows_of ends (with_relay node next relays) ≡ front ++ (map (pending_of ends node) next.pending.rows ++ back)
  pub front_others : (row : PendingRow) → Has row front → is_node row.relay node ≡ false
  pub back_others : (row : PendingRow) → Has row back → is_node row.relay node ≡ false

-- a row is of a relay among these
rows_from : (ends : Ends) (row : PendingRow) (xs : List RelayAt) → Has row (rows_of ends xs) → (at : RelayAt) × Has at xs × (row.relay ≡ at.node)
rows_from ends row [] h = elim h [ ]
rows_from ends row (x ∷ xs) h = elim (Has-parts (rows_at ends x) h) [
  | inl g ↦ let m = Has-unmap (pending_of ends x.node) x.relay.pending.rows g in (x, here, ap (λ (r : PendingRow). r.relay) (sym m.2))
  | inr g ↦ let m = rows_from ends row xs g in (m.0, there m.1, m.2)
]

others_not : (node : NodeNo) (before after : List RelayAt) (at : RelayAt) → count_by (is_relay_at node) (before ++ at ∷ after) ≤ 1 → is_relay_at node at ≡ true
    → (count_by (is_relay_at node) before ≡ 0) × (count_by (is_relay_at node) after ≡ 0)
others_not node [] after at le is =
    let this : one (is_relay_at node at) ≡ 1 = ap one is in
    let whole = count-cons (is_relay_at node) at after in
    (refl, omega arith)
others_not node (x ∷ before) after at le is =
    let whole = count-cons (is_relay_at node) x (before ++ at ∷ after) in
    let first_part = count-cons (is_relay_at node) x before in
    let more = others_not node before after at (omega arith) is in
    let back_part = more.0 in
    let count : 1 ≤ count_by (is_relay_at node) (before ++ at ∷ after) = count-has (is_relay_at node) (Has-right before here) is in
    (omega arith, more.1)

pub rows_stand : (ends : Ends) (node : NodeNo) (relays : List RelayAt) (relay : RelayState) → count_by (is_relay_at node) relays ≤ 1 → relay_at node relays ≡
    Some relay → RowsStand ends node relays relay
rows_stand ends node relays relay alone e =
    let found = relay_stands node relays relay e in
    let its : RelayAt = record { node = node; relay = relay } in
    let cut = parted (is_relay_at node) relays its found in
    let none = others_not node cut.before cut.after its (subst (λ (xs : List RelayAt). count_by (is_relay_at node) xs ≤ 1) cut.whole alone)
    (eq-eqb node.0 node.0 refl) in
    record {
      front = rows_of ends cut.before;
      back = rows_of ends cut.after;
      now = ap (rows_of ends) cut.whole ∙ flat_map-append (rows_at ends) cut.before (its ∷ cut.after);
      change = λ next. ap (rows_of ends) (cut.change (record { node = node; relay = next })) ∙ flat_map-append (rows_at ends) cut.before
          (record { node = node; relay = next } ∷ cut.after);
      front_others = λ row h. let m = rows_from ends row cut.before h in ap (λ (n : NodeNo). is_node n node) m.2 ∙ does_not_pass (is_relay_at node) cut.before
          none.0 m.1;
      back_others = λ row h. let m = rows_from ends row cut.after h in ap (λ (n : NodeNo). is_node n node) m.2 ∙ does_not_pass (is_relay_at node) cut.after
          none.1 m.1;
    }

-- ---- one row less

pub IsWith-without : {row : Row} {others rows : List Row} → IsWith row others rows → Without row rows others
IsWith-without {row} {others} {rows} w = subst (λ (xs : List Row). Without row rows xs) (sym w.without)
    (subst (λ (xs : List Row). Without row xs (w.before ++ w.after)) (sym w.whole) (Without-middle w.before row w.after))

pub row_less : (ends : Ends) (node : NodeNo) (front back : List PendingRow) {row : Row} {rows others : List Row} → Without row rows others
    → Without (pending_of ends node row) (front ++ (map (pending_of ends node) rows ++ back)) (front ++ (map (pending_of ends node) others ++ back))
row_less ends node front back w = Without-right front (Without-left back (Without-map (pending_of ends node) w))

-- ---- identifiers in use

-- nothing is held under the key
held_none : (rows : List Row) (conn : ConnId) (hop : ℕ) (row : Row) → held_at rows conn hop ≡ None → Has row rows → has_key conn hop row ≡ false
held_none rows conn hop row e h = not_found (has_key conn hop) (none_mapped (λ (r : Row). r.held) (has_key conn hop) rows e) h

not_both : (a b c : Bool) → (a && c) ≡ false → (a && b && c) ≡ false
not_both true true c e = e
not_both true false c e = refl
not_both false b c e = refl

-- an identifier under which the relay holds nothing on the connection is not in use
pub not_in_use : (ends : Ends) (node : NodeNo) (front back : List PendingRow) (rows others : List Row) (conn : ConnId) (hop : ℕ)
    → ((row : PendingRow) → Has row front → is_node row.relay node ≡ false) → ((row : PendingRow) → Has row back → is_node row.relay node ≡ false)
    → held_at rows conn hop ≡ None → ((row : Row) → Has row others → Has row rows)
    → count_by (row_in (with_hop conn node hop)) (front ++ (map (pending_of ends node) others ++ back)) ≡ 0
not_in_use ends node front back rows others conn hop f b free among = none_pass (row_in (with_hop conn node hop))
    (front ++ (map (pending_of ends node) others ++ back)) none
  where
    of_other : (row : PendingRow) → is_node row.relay node ≡ false → row_in (with_hop conn node hop) row ≡ false
    of_other row e = and_left (row.conn.0 == conn.0 && row.relay.0 == node.0) (row.request.header.hop == hop)
        (and_right (row.conn.0 == conn.0) (row.relay.0 == node.0) e)

    own : (row : PendingRow) → Has row (map (pending_of ends node) others) → row_in (with_hop conn node hop) row ≡ false
    own row h =
        let m = Has-unmap (pending_of ends node) others h in
        subst (λ (r : PendingRow). row_in (with_hop conn node hop) r ≡ false) m.2
        (not_both (is_sent_on conn m.0) (node.0 == node.0) (hop_of m.0 == hop) (held_none rows conn hop m.0 free (among m.0 m.1)))

    none : (row : PendingRow) → Has row (front ++ (map (pending_of ends node) others ++ back)) → row_in (with_hop conn node hop) row ≡ false
    none row h = elim (Has-parts front h) [
      | inl g ↦ of_other row (f row g)
      | inr g ↦ elim (Has-parts (map (pending_of ends node) others) g) [
        | inl k ↦ own row k
        | inr k ↦ of_other row (b row k)
      ]
    ]

-- what is held under a key is of it
pub held_key : (rows : List Row) (conn : ConnId) (hop : ℕ) (held : Held) → held_at rows conn hop ≡ Some held → held.request.header.hop ≡ hop
held_key rows conn hop held e =
    let found = found_mapped (λ (r : Row). r.held) (has_key conn hop) rows e in
    let parts = and_parts (is_sent_on conn found.0) (hop_of found.0 == hop) (found_passes (has_key conn hop) rows found.0 found.1) in
    ap (λ (h : Held). h.request.header.hop) (sym found.2) ∙ eqb-true (hop_of found.0) hop parts.1
