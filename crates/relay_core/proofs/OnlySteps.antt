-- What a relay does at an event, where one thing alone may be done.
use Rattle.std.proofs.Common.{◌≡◌, ◌↔◌, ℕ, ◌⊎◌, inl, inr, List, [], ◌∷◌, ◌++◌, Some, None, Ok, Err, refl, ap, sym, subst, ◌∙◌}
use Rattle.dia_base.specs.declared.number.ConnId.{ConnId}
use Rattle.dia_message.specs.declared.message.Message.{Message}
use Rattle.dia_message.specs.Traffic.{Traffic}
use Rattle.cc_view.specs.declared.refusal.Refusal.{Refusal}
use Rattle.relay_hops.specs.declared.row.Held.{Held}
use Rattle.relay_hops.specs.declared.row.Origin.{Origin}
use Rattle.relay_hops.specs.declared.row.Row.{Row}
use Rattle.relay_hops.specs.PendingTable.{held_at, under, IsWith}
use Rattle.relay_core.specs.Forwarding.{with_record}
use Rattle.relay_core.specs.RelayState.{RelayState, with_next, with_rows}
use Rattle.relay_core.specs.RelayStep.{OnAnswer, sent_back, dropped, ignored, OnRequest, refused, forwarded, held_for, refusal_to, row_of}
use Rattle.relay_core.specs.Verdict.{decision}

-- ---- short lists

pub empty_parts : {T : Type 0} (before after : List T) → [] ≡ before ++ after → (before ≡ []) × (after ≡ [])
empty_parts [] after e = (refl, sym e)
empty_parts (x ∷ before) after e = absurd cc

pub one_part : {T : Type 0} (x row : T) (before after : List T) → x ∷ [] ≡ before ++ row ∷ after → (before ≡ []) × (after ≡ [])
one_part x row [] after e =
    let none : [] ≡ after = cc in
    (refl, sym none)
one_part x row (y ∷ []) after e = absurd cc
one_part x row (y ∷ z ∷ before) after e = absurd cc

-- of two one is taken out, and the other is left
two_parts : {T : Type 0} (x y row : T) (before after : List T) → x ∷ y ∷ [] ≡ before ++ row ∷ after
    → ((x ≡ row) × (before ++ after ≡ y ∷ [])) ⊎ ((y ≡ row) × (before ++ after ≡ x ∷ []))
two_parts x y row [] after e =
    let first : x ≡ row = cc in
    let left : y ∷ [] ≡ after = cc in
    inl (first, sym left)
two_parts x y row (z ∷ []) after e =
    let second : y ≡ row = cc in
    let none : [] ≡ after = cc in
    let same : x ≡ z = cc in
    inr (second, ap (λ (w : _). w ∷ after) (sym same) ∙ ap (λ (ws : _). x ∷ ws) (sym none))
two_parts x y row (z ∷ w ∷ []) after e = absurd cc
two_parts x y row (z ∷ w ∷ v ∷ before) after e = absurd cc

pub with_none : (row : Row) (before after rows : List Row) → before ≡ [] → after ≡ [] → rows ≡ before ++ row ∷ after → rows ≡ row ∷ []
with_none row [] [] rows b a e = e
with_none row [] (x ∷ after) rows b a e = absurd cc
with_none row (x ∷ before) after rows b a e = absurd cc

-- both in place
pub both : (P : Traffic → RelayState → Type 0) (items sent : Traffic) (after next : RelayState) → items ≡ sent → after ≡ next → P sent next → P items after
both P items sent after next s n p = subst (λ (x : Traffic). P x after) (sym s) (subst (λ (x : RelayState). P sent x) (sym n) p)

-- this is sent and the relay is so afterwards, and nothing else may be done
abbrev pub Only : (Traffic → RelayState → Type 0) → Traffic → RelayState → Type 0
Only P sent next = (items : Traffic) (after : RelayState) → P items after ↔ ((items ≡ sent) × (after ≡ next))

-- ---- requests

refused-only : {relay : RelayState} {conn : ConnId} {sender : List ℕ} {request : Message} {items : Traffic} {after : RelayState} (refusal : Refusal)
    → decision relay sender request ≡ Err refusal → OnRequest relay conn sender request items after
    → (items ≡ refusal_to relay.node conn request refusal) × (after ≡ relay)
refused-only {relay = relay} {conn = conn} {request = request} refusal d (refused other e) =
    let same : other ≡ refusal = cc in
    (ap (λ (x : Refusal). refusal_to relay.node conn request x) same, refl)
refused-only refusal d (forwarded to hop rows count e free more) = absurd cc

pub refuses : (relay : RelayState) (conn : ConnId) (sender : List ℕ) (request : Message) (refusal : Refusal) → decision relay sender request ≡ Err refusal
    → Only (OnRequest relay conn sender request) (refusal_to relay.node conn request refusal) relay
refuses relay conn sender request refusal d items after = (
  refused-only refusal d,
  λ p. both (OnRequest relay conn sender request) items (refusal_to relay.node conn request refusal) after relay p.0 p.1 (refused refusal d),
)

-- what is kept of a request that goes out under an identifier
abbrev kept : ConnId → ConnId → List ℕ → Message → ℕ → Row
kept to conn sender request hop = row_of to (held_for conn request (under hop (with_record sender request)))

abbrev GoesOut : RelayState → ConnId → ConnId → List ℕ → Message → Traffic → RelayState → Type 0
GoesOut relay to conn sender request items after =
    (hop : ℕ) × (count : ℕ) × (items ≡ (to, under hop (with_record sender request)) ∷ []) × (after ≡ with_rows (kept to conn sender request hop ∷ []) (with_next count relay))

only_row : (row : Row) (others rows : List Row) → others ≡ [] → IsWith row others rows → rows ≡ row ∷ []
only_row row others rows none w =
    let parts = empty_parts w.before w.after (sym none ∙ w.without) in
    with_none row w.before w.after rows parts.0 parts.1 w.whole

forwarded-only : {relay : RelayState} {conn : ConnId} {sender : List ℕ} {request : Message} {items : Traffic} {after : RelayState} (to : ConnId)
    → decision relay sender request ≡ Ok to → relay.pending.rows ≡ [] → OnRequest relay conn sender request items after
    → GoesOut relay to conn sender request items after
forwarded-only to d none (refused refusal e) = absurd cc
forwarded-only {relay = relay} {conn = conn} {sender = sender} {request = request} to d none (forwarded other hop rows count e free more) =
    let same : other ≡ to = cc in (
      hop,
      count,
      ap (λ (x : ConnId). (x, under hop (with_record sender request)) ∷ []) same,
      ap (λ (x : List Row). with_rows x (with_next count relay)) (only_row (kept other conn sender request hop) relay.pending.rows rows none more
          ∙ ap (λ (x : ConnId). kept x conn sender request hop ∷ []) same),
    )

goes_out : {relay : RelayState} {conn : ConnId} {sender : List ℕ} {request : Message} {items : Traffic} {after : RelayState} (to : ConnId)
    → decision relay sender request ≡ Ok to → relay.pending.rows ≡ [] → GoesOut relay to conn sender request items after
    → OnRequest relay conn sender request items after
goes_out {relay = relay} {conn = conn} {sender = sender} {request = request} {items = items} {after = after} to d none (hop, count, sent, next) =
    let row = kept to conn sender request hop in
    let free : held_at relay.pending.rows to hop ≡ None = ap (λ (rows : List Row). held_at rows to hop) none in
    both (OnRequest relay conn sender request) items ((to, under hop (with_record sender request)) ∷ []) after (with_rows (row ∷ []) (with_next count relay)) sent next
    (forwarded to hop (row ∷ []) count d free (record { before = []; after = []; without = none; whole = refl }))

pub forwards : (relay : RelayState) (conn : ConnId) (sender : List ℕ) (request : Message) (to : ConnId)
    → decision relay sender request ≡ Ok to → relay.pending.rows ≡ []
    → (items : Traffic) (after : RelayState) → OnRequest relay conn sender request items after ↔ GoesOut relay to conn sender request items after
forwards relay conn sender request to d none items after = (forwarded-only to d none, goes_out to d none)

-- ---- answers

-- the rows without one of them
abbrev pub OnlyLeft : Row → List Row → List Row → Type 0
OnlyLeft row rows left = (others : List Row) → IsWith row others rows → others ≡ left

left_of : {x y row : Row} (left : List Row) → ((x ≡ row) × (left ≡ y ∷ [])) ⊎ ((y ≡ row) × (left ≡ x ∷ [])) → (x ≡ row → ⊥) → left ≡ x ∷ []
left_of left (inl p) other = absurd (other p.0)
left_of left (inr p) other = p.1

left_of' : {x y row : Row} (left : List Row) → ((x ≡ row) × (left ≡ y ∷ [])) ⊎ ((y ≡ row) × (left ≡ x ∷ [])) → (y ≡ row → ⊥) → left ≡ y ∷ []
left_of' left (inl p) other = p.1
left_of' left (inr p) other = absurd (other p.0)

pub without_one : (row : Row) → OnlyLeft row (row ∷ []) []
without_one row = λ others w.
    let none = one_part row row w.before w.after w.whole in
    w.without ∙ ap (λ (rows : List Row). rows ++ w.after) none.0 ∙ none.1

pub without_second : (first row : Row) → (first ≡ row → ⊥) → OnlyLeft row (first ∷ row ∷ []) (first ∷ [])
without_second first row other = λ others w. w.without ∙ left_of (w.before ++ w.after) (two_parts first row row w.before w.after w.whole) other

pub without_first : (row second : Row) → (second ≡ row → ⊥) → OnlyLeft row (row ∷ second ∷ []) (second ∷ [])
without_first row second other = λ others w. w.without ∙ left_of' (w.before ++ w.after) (two_parts row second row w.before w.after w.whole) other

answered-only : {relay : RelayState} {conn : ConnId} {answer : Message} {items : Traffic} {after : RelayState} (held : Held) (origin : Origin) (left : List Row)
    → held_at relay.pending.rows conn answer.header.hop ≡ Some held → held.origin ≡ Some origin → OnlyLeft (row_of conn held) relay.pending.rows left
    → OnAnswer relay conn answer items after → (items ≡ (origin.conn, under origin.hop answer) ∷ []) × (after ≡ with_rows left relay)
answered-only {relay = relay} {conn = conn} {answer = answer} held origin left h o only (sent_back other from rows e f less) =
    let same : other ≡ held = cc in
    let source : from ≡ origin = let g : held.origin ≡ Some from = ap (λ (x : Held). x.origin) (sym same) ∙ f in cc in (
      ap (λ (x : Origin). (x.conn, under x.hop answer) ∷ []) source,
      ap (λ (x : List Row). with_rows x relay) (only rows (subst (λ (x : Held). IsWith (row_of conn x) rows relay.pending.rows) same less)),
    )
answered-only held origin left h o only (dropped other rows e f less) =
    let same : other ≡ held = cc in
    let g : held.origin ≡ None = ap (λ (x : Held). x.origin) (sym same) ∙ f in absurd cc
answered-only held origin left h o only (ignored e) = absurd cc

pub answers : (relay : RelayState) (conn : ConnId) (answer : Message) (held : Held) (origin : Origin) (left : List Row)
    → held_at relay.pending.rows conn answer.header.hop ≡ Some held → held.origin ≡ Some origin
    → OnlyLeft (row_of conn held) relay.pending.rows left → IsWith (row_of conn held) left relay.pending.rows
    → Only (OnAnswer relay conn answer) ((origin.conn, under origin.hop answer) ∷ []) (with_rows left relay)
answers relay conn answer held origin left h o only less items after = (
  answered-only held origin left h o only,
  λ p. both (OnAnswer relay conn answer) items ((origin.conn, under origin.hop answer) ∷ []) after (with_rows left relay) p.0 p.1
      (sent_back held origin left h o less),
)

dropped-only : {relay : RelayState} {conn : ConnId} {answer : Message} {items : Traffic} {after : RelayState} (held : Held) (left : List Row)
    → held_at relay.pending.rows conn answer.header.hop ≡ Some held → held.origin ≡ None → OnlyLeft (row_of conn held) relay.pending.rows left
    → OnAnswer relay conn answer items after → (items ≡ []) × (after ≡ with_rows left relay)
dropped-only held left h o only (sent_back other from rows e f less) =
    let same : other ≡ held = cc in
    let g : held.origin ≡ Some from = ap (λ (x : Held). x.origin) (sym same) ∙ f in absurd cc
dropped-only {relay = relay} {conn = conn} held left h o only (dropped other rows e f less) =
    let same : other ≡ held = cc in
    (refl, ap (λ (x : List Row). with_rows x relay) (only rows (subst (λ (x : Held). IsWith (row_of conn x) rows relay.pending.rows) same less)))
dropped-only held left h o only (ignored e) = absurd cc

pub drops : (relay : RelayState) (conn : ConnId) (answer : Message) (held : Held) (left : List Row)
    → held_at relay.pending.rows conn answer.header.hop ≡ Some held → held.origin ≡ None
    → OnlyLeft (row_of conn held) relay.pending.rows left → IsWith (row_of conn held) left relay.pending.rows
    → Only (OnAnswer relay conn answer) [] (with_rows left relay)
drops relay conn answer held left h o only less items after = (
  dropped-only held left h o only,
  λ p. both (OnAnswer relay conn answer) items [] after (with_rows left relay) p.0 p.1 (dropped held left h o less),
)

ignored-only : {relay : RelayState} {conn : ConnId} {answer : Message} {items : Traffic} {after : RelayState}
    → held_at relay.pending.rows conn answer.header.hop ≡ None → OnAnswer relay conn answer items after → (items ≡ []) × (after ≡ relay)
ignored-only h (sent_back held origin rows e f less) = absurd cc
ignored-only h (dropped held rows e f less) = absurd cc
ignored-only h (ignored e) = (refl, refl)

pub ignores : (relay : RelayState) (conn : ConnId) (answer : Message) → held_at relay.pending.rows conn answer.header.hop ≡ None
    → Only (OnAnswer relay conn answer) [] relay
ignores relay conn answer h items after = (ignored-only h, λ p. both (OnAnswer relay conn answer) items [] after relay p.0 p.1 (ignored h))
