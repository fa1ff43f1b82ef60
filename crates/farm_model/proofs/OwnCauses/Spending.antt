-- A relay that has lost a connection refuses each request that it had sent on it once: what it refuses, and what is left.
use Rattle.std.proofs.Common.{◌≡◌, ◌≤◌, ◌+◌, ℕ, Bool, true, false, List, [], ◌∷◌, ◌++◌, map, inl, inr, refl, sym, subst, ap, ◌∙◌, append_assoc}
use Rattle.std.proofs.Common.{append-nil, arith, eq-eqb}
use Rattle.std.specs.Prelude.{◌==◌, ◌&&◌, count_by}
use Rattle.std.proofs.lemmas.Bool.{and_parts}
use Rattle.dia_base.specs.declared.number.ConnId.{ConnId}
use Rattle.dia_base.specs.declared.number.NodeNo.{NodeNo}
use Rattle.dia_base.proofs.Counting.{one, count-cons, count-map, count-le}
use Rattle.cc_view.specs.declared.refusal.Refusal.{Refusal}
use Rattle.relay_hops.specs.declared.row.Held.{Held}
use Rattle.relay_hops.specs.declared.row.Row.{Row}
use Rattle.relay_hops.specs.PendingTable.{hop_of, resent, orphaned}
use Rattle.relay_core.specs.Failover.{without_origins}
use Rattle.relay_core.specs.RelayState.{RelayState}
use Rattle.relay_core.specs.RelayStep.{row_of}
use Rattle.farm_law.specs.Counts.{with_hop, row_in}
use Rattle.farm_law.specs.Farm.{PendingRow, Refused}
use Rattle.farm_law.specs.Lists.{Has, Without}
use Rattle.farm_law.proofs.Lists.{all-end, count-without}
use Rattle.farm_law.proofs.Weighing.{with_hop-at}
use Rattle.farm_base.specs.declared.site.Site.{Site}
use Rattle.farm_base.specs.Nodes.{is_node}
use Rattle.farm_model.specs.OwnCauses.{is_refused_as}
use Rattle.farm_model.specs.World.{Ends, WorldState}
use Rattle.farm_model.proofs.Lists.Among.{Has-parts}
use Rattle.farm_model.proofs.Moves.AsFarm.{pending_of, rows_of}
use Rattle.farm_model.proofs.Lists.Finding.{none_pass}
use Rattle.farm_model.proofs.Lists.Numbering.{same_conn}
use Rattle.farm_model.proofs.OwnCauses.Refusing.{HasRefused, count-append}

-- no identifier is in use twice
abbrev pub IsSingle : Ends → WorldState → Type 0
IsSingle ends w = (conn : ConnId) (node : NodeNo) (hop : ℕ) → count_by (row_in (with_hop conn node hop)) (rows_of ends w.relays) ≤ 1

abbrev pub once_at : NodeNo → NodeNo → ℕ
once_at node n = one (is_node node n)

module _ (node : NodeNo) (lost : ConnId) where
  -- a row of the relay on the lost connection, under an identifier
  abbrev pub is_own : NodeNo → ConnId → ℕ → Row → Bool
  is_own n c hop row = is_node node n && (lost.0 == c.0 && (row.conn.0 == lost.0 && hop_of row == hop))

  -- fewer are left than there were
  abbrev pub IsFewer : List Row → List Row → Type 0
  IsFewer rows between = (n : NodeNo) (c : ConnId) (hop : ℕ) → count_by (is_own n c hop) between ≤ count_by (is_own n c hop) rows

  -- what is refused, with what is left, was there
  pub record HasSpent (HasReason : Refused → Type 0) (old new : List Refused) (rows between : List Row) : Type 0 where
    pub more : List Refused
    pub grown : new ≡ old ++ more
    pub reasons : (r : Refused) → Has r more → HasReason r
    pub spent : (n : NodeNo) (c : ConnId) (hop : ℕ) → count_by (is_refused_as n c hop) more + count_by (is_own n c hop) between ≤ count_by (is_own n c hop) rows

  pub spends_none : (HasReason : Refused → Type 0) (refused : List Refused) {rows between : List Row} → IsFewer rows between → HasSpent HasReason refused
      refused rows between
  spends_none HasReason refused fewer = record {
    more = [];
    grown = sym (append-nil refused);
    reasons = λ r h. elim h [ ];
    spent = λ n c hop. let a = fewer n c
        hop in omega (arith, a);
  }

  pub fewer_own : {row : Row} {rows others : List Row} → Without row rows others → IsFewer rows others
  fewer_own w n c hop = let a = count-without (is_own n c hop) w in omega (arith, a)

  elsewhere : (a b hop : Bool) (e : Bool) → e ≡ false → one (a && (b && (e && hop))) ≡ 0
  elsewhere true true hop false q = refl
  elsewhere true false hop false q = refl
  elsewhere false b hop false q = refl
  elsewhere a b hop true q = absurd (Rattle.std.proofs.Common.true≢false q)

  -- one that is sent again goes out on another connection
  pub moved_own : (held : Held) (to : ConnId) (hop : ℕ) {rows others left : List Row} → Without (row_of lost held) rows others → Without
      (resent to hop (row_of lost held)) left others → (to.0 == lost.0) ≡ false → IsFewer rows left
  moved_own held to hop out back_in apart n c h =
      let a = count-without (is_own n c h) out in
      let b = count-without (is_own n c h) back_in in
      let e = elsewhere (is_node node n) (lost.0 == c.0) (hop == h) (to.0 == lost.0) apart in
      omega (arith, a, b, e)

  pub not_lost : (to : ConnId) → (to ≡ lost → ⊥) → (to.0 == lost.0) ≡ false
  not_lost to never = go (to.0 == lost.0) refl
    where
      go : (b : Bool) → (to.0 == lost.0) ≡ b → b ≡ false
      go true e = absurd (never (same_conn to lost e))
      go false e = refl

  pub spends_one : (HasReason : Refused → Type 0) (refused : List Refused) (held : Held) (refusal : Refusal) → HasReason
      (record { node = node; conn = lost; request = held.request; refusal = refusal }) → {rows left : List Row} → Without (row_of lost held) rows left
      → HasSpent HasReason refused (refused ++ record { node = node; conn = lost; request = held.request; refusal = refusal } ∷ []) rows left
  spends_one HasReason refused held refusal reason out = record {
    more = entry ∷ [];
    grown = refl;
    reasons = all-end HasReason [] entry (λ r h. elim h [ ]) reason;
    spent = λ n c hop.
        let a = count-without (is_own n c hop) out in
        let b : is_own n c hop (row_of lost held) ≡ is_refused_as n c hop entry =
        ap (λ (q : Bool). is_node node n && (lost.0 == c.0 && (q && held.request.header.hop == hop))) (eq-eqb lost.0 lost.0 refl) in
        let d = ap one b in
        omega (arith, a, d, count-cons (is_refused_as n c hop) entry []);
  }
    where
      entry : Refused
      entry = record { node = node; conn = lost; request = held.request; refusal = refusal }

  pub spends_twice : (HasReason : Refused → Type 0) {old between new : List Refused} {rows then_rows last : List Row} → HasSpent HasReason old between rows
      then_rows → HasSpent HasReason between new then_rows last → HasSpent HasReason old new rows last
  spends_twice HasReason {old = old} a b = record {
    more = a.more ++ b.more;
    grown = b.grown ∙ ap (λ (rs : List Refused). rs ++ b.more) a.grown ∙ append_assoc old a.more b.more;
    reasons = λ r h. elim (Has-parts a.more h) [ inl g ↦ a.reasons r g | inr g ↦ b.reasons r g ];
    spent = λ n c hop.
        let d = a.spent n c hop in let e = b.spent n c hop in
        omega (arith, d, e, count-append (is_refused_as n c hop) a.more b.more);
  }

-- of all that it had sent on the connection, it refuses each once
module _ (site : Site) (ends : Ends) (w : WorldState) (node : NodeNo) (lost : ConnId) (relay : RelayState) where
  own_once : (front back : List PendingRow) → rows_of ends w.relays ≡ front ++ (map (pending_of ends node) relay.pending.rows ++ back) → IsSingle ends w →
      (n : NodeNo) (c : ConnId) (hop : ℕ) → count_by (is_own node lost n c hop) (without_origins lost relay.pending.rows) ≤ once_at node n
  own_once front back now single n c hop = go (is_node node n) refl
    where
      rows : List Row
      rows = relay.pending.rows

      as_row : (row : Row) → is_own node lost n c hop row ≡ true → row_in (with_hop lost node hop) (pending_of ends node row) ≡ true
      as_row row e =
          let a = and_parts (is_node node n) (lost.0 == c.0 && (row.conn.0 == lost.0 && hop_of row == hop)) e in
          let b = and_parts (lost.0 == c.0) (row.conn.0 == lost.0 && hop_of row == hop) a.1 in
          let d = and_parts (row.conn.0 == lost.0) (hop_of row == hop) b.1 in
          with_hop-at lost node hop row.held.request.header.end (same_conn row.conn lost d.0) refl (Rattle.std.proofs.lemmas.Bool.eqb-true (hop_of row) hop d.1)

      at_most : count_by (is_own node lost n c hop) (without_origins lost rows) ≤ 1
      at_most =
          let a = count-map (is_own node lost n c hop) (orphaned lost) rows in
          let b = count-le (is_own node lost n c hop) (λ (row : Row). row_in (with_hop lost node hop) (pending_of ends node row)) as_row rows in
          let d = count-map (row_in (with_hop lost node hop)) (pending_of ends node) rows in
          let e = ap (count_by (row_in (with_hop lost node hop))) now in
          let f = count-append (row_in (with_hop lost node hop)) front (map (pending_of ends node) rows ++ back) in
          let g = count-append (row_in (with_hop lost node hop)) (map (pending_of ends node) rows) back in
          let h = single lost node hop in
          omega (arith, a, b, d, e, f, g, h)

      go : (b : Bool) → is_node node n ≡ b → count_by (is_own node lost n c hop) (without_origins lost rows) ≤ one b
      go true e = at_most
      go false e =
          let none = none_pass (is_own node lost n c hop) (without_origins lost rows)
          (λ row h. ap (λ (q : Bool). q && (lost.0 == c.0 && (row.conn.0 == lost.0 && hop_of row == hop))) e) in
          omega (arith, none)

  pub spent_once : (HasReason : Refused → Type 0) (front back : List PendingRow) → rows_of ends w.relays ≡ front ++
      (map (pending_of ends node) relay.pending.rows ++ back) → IsSingle ends w → {old new : List Refused} {between : List Row}
      → HasSpent node lost HasReason old new (without_origins lost relay.pending.rows) between → HasRefused HasReason (once_at node) old new
  spent_once HasReason front back now single h = record {
    more = h.more;
    grown = h.grown;
    reasons = h.reasons;
    once = λ n c hop. let a = h.spent n c hop in let b = own_once front back now single n c hop in omega (arith, a, b);
  }
