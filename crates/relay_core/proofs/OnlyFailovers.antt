-- What becomes of the one request that is pending at a relay, when a connection has ended.
use Rattle.std.proofs.Common.{◌≡◌, ◌↔◌, ℕ, ◌≤◌, ◌==◌, ◌&&◌, Bool, true, false, cond, List, [], ◌∷◌, ◌++◌, Some, None, IsSome, is_some, option_map, Ok, Err, refl, ap, sym, subst, ◌∙◌, arith}
use Rattle.std.proofs.lemmas.Bool.{and_parts, eqb-true}
use Rattle.dia_base.specs.declared.number.ConnId.{ConnId}
use Rattle.dia_message.specs.Traffic.{Traffic}
use Rattle.cc_view.specs.Answer.{refusal_of}
use Rattle.cc_view.specs.Refusal.{refusal_with}
use Rattle.cc_view.specs.declared.code.ResultCode.{ResultCode}
use Rattle.relay_hops.specs.declared.row.Held.{Held}
use Rattle.relay_hops.specs.declared.row.Origin.{Origin}
use Rattle.relay_hops.specs.declared.row.Row.{Row}
use Rattle.relay_hops.specs.PendingTable.{again, has_key, held_at, is_sent_on, resent, under, IsWith}
use Rattle.relay_core.specs.declared.node.RelayNode.{RelayNode}
use Rattle.relay_core.specs.Failover.{Failover, none_left, least_first, RequestFailover, forgotten, sent_again, given_up, OnConnLost, after_end, next_hop_again, without_origins}
use Rattle.relay_core.specs.RelayState.{RelayState, with_rows}
use Rattle.relay_core.specs.RelayStep.{row_of}
use Rattle.relay_core.proofs.OnlySteps.{both, empty_parts, one_part, with_none, Only}

-- ---- nothing is left on the connection

abbrev Ends : Traffic → List Row → List Row → Type 0
Ends items rows left = (items ≡ []) × (left ≡ rows)

ends_empty : {node : RelayNode} {lost : ConnId} {items : Traffic} {left : List Row} → Failover node lost [] items left → Ends items [] left
ends_empty (none_left rows none) = (refl, refl)
ends_empty (least_first hop held rows between left sent more at least one rest) = absurd cc

elsewhere : (b c : Bool) (row : Row) (held : Held) → b ≡ false → option_map (λ (r : Row). r.held) (cond (b && c) (Some row) None) ≡ Some held → ⊥
elsewhere true c row held off e = absurd cc
elsewhere false c row held off e = absurd cc

ends_elsewhere : {node : RelayNode} {lost : ConnId} {items : Traffic} {left : List Row} (row : Row) → is_sent_on lost row ≡ false
    → Failover node lost (row ∷ []) items left → Ends items (row ∷ []) left
ends_elsewhere row off (none_left rows none) = (refl, refl)
ends_elsewhere {lost = lost} row off (least_first hop held rows between left sent more at least one rest) =
    absurd (elsewhere (is_sent_on lost row) _ row held off at)

-- ---- one request was sent on it

one_held : (b : Bool) (row : Row) (held : Held) → option_map (λ (r : Row). r.held) (cond b (Some row) None) ≡ Some held → row.held ≡ held
one_held true row held e = cc
one_held false row held e = absurd cc

-- what becomes of it, and of the rest
record Goes (node : RelayNode) (lost : ConnId) (held : Held) (items : Traffic) (left : List Row) : Type 0 where
  sent : Traffic
  more : Traffic
  between : List Row
  one : RequestFailover node lost held (row_of lost held ∷ []) sent between
  rest : Failover node lost between more left
  parts : items ≡ sent ++ more

goes : {node : RelayNode} {lost : ConnId} {items : Traffic} {left : List Row} (held : Held)
    → held_at (row_of lost held ∷ []) lost held.request.header.hop ≡ Some held
    → Failover node lost (row_of lost held ∷ []) items left → Goes node lost held items left
goes {lost = lost} held here (none_left rows none) =
    let gone : held_at (row_of lost held ∷ []) lost held.request.header.hop ≡ None = none held.request.header.hop in absurd cc
goes {node = node} {lost = lost} held here (least_first hop other rows between left sent more at least one rest) =
    let same : held ≡ other = one_held (has_key lost hop (row_of lost held)) (row_of lost held) other at in
    record {
      sent = sent;
      more = more;
      between = between;
      one = subst (λ (x : Held). RequestFailover node lost x (row_of lost held ∷ []) sent between) (sym same) one;
      rest = rest;
      parts = refl;
    }

-- it goes out again
abbrev Again : ConnId → Held → ConnId → Traffic → List Row → Type 0
Again lost held to sent between = (hop : ℕ) × (sent ≡ (to, again hop held.request) ∷ []) × (between ≡ resent to hop (row_of lost held) ∷ [])

none_left_of : (row : Row) → IsWith row [] (row ∷ [])
none_left_of row = record { before = []; after = []; without = refl; whole = refl }

none_but : (row : Row) (others : List Row) → IsWith row others (row ∷ []) → others ≡ []
none_but row others w =
    let parts = one_part row row w.before w.after w.whole in
    w.without ∙ (ap (λ (x : List Row). x ++ w.after) parts.0 ∙ parts.1)

again-only : {node : RelayNode} {lost : ConnId} {held : Held} {sent : Traffic} {between : List Row} (origin : Origin) (to : ConnId)
    → held.origin ≡ Some origin → next_hop_again node held.request ≡ Ok to
    → RequestFailover node lost held (row_of lost held ∷ []) sent between → Again lost held to sent between
again-only origin to o n (forgotten left none w) = absurd cc
again-only origin to o n (given_up other code left e f w) = absurd cc
again-only {lost = lost} {held = held} origin to o n (sent_again other where_to hop left e f free moved) =
    let same : where_to ≡ to = cc in
    let none = none_but (row_of lost held) moved.rest moved.was in
    let parts = empty_parts moved.is.before moved.is.after (sym none ∙ moved.is.without) in (
      hop,
      ap (λ (x : ConnId). (x, again hop held.request) ∷ []) same,
      with_none (resent where_to hop (row_of lost held)) moved.is.before moved.is.after left parts.0 parts.1 moved.is.whole
          ∙ ap (λ (x : ConnId). resent x hop (row_of lost held) ∷ []) same,
    )

-- its asker is told why it goes nowhere
abbrev answer_by : RelayNode → Held → Origin → ResultCode → Traffic
answer_by node held origin code = (origin.conn, under origin.hop (refusal_of node.name node.realm held.request (refusal_with code))) ∷ []

given_up-only : {node : RelayNode} {lost : ConnId} {held : Held} {sent : Traffic} {between : List Row} (origin : Origin) (code : ResultCode)
    → held.origin ≡ Some origin → next_hop_again node held.request ≡ Err code → RequestFailover node lost held (row_of lost held ∷ []) sent between
    → (sent ≡ answer_by node held origin code) × (between ≡ [])
given_up-only origin code o n (forgotten left none w) = absurd cc
given_up-only origin code o n (sent_again other where_to hop left e f free moved) = absurd cc
given_up-only {node = node} {lost = lost} {held = held} origin code o n (given_up other why left e f w) =
    let asker : other ≡ origin = cc in
    let same : why ≡ code = cc in
    (ap (λ (x : Origin). answer_by node held x why) asker ∙ ap (λ (x : ResultCode). answer_by node held origin x) same, none_but (row_of lost held) left w)

-- nobody waits for it
forgotten-only : {node : RelayNode} {lost : ConnId} {held : Held} {sent : Traffic} {between : List Row}
    → held.origin ≡ None → RequestFailover node lost held (row_of lost held ∷ []) sent between → (sent ≡ []) × (between ≡ [])
forgotten-only {lost = lost} {held = held} o (forgotten left none w) = (refl, none_but (row_of lost held) left w)
forgotten-only o (given_up other code left e f w) = absurd cc
forgotten-only o (sent_again other where_to hop left e f free moved) = absurd cc

-- ---- the relay

abbrev ended : RelayState → ConnId → List Row → RelayState
ended relay lost rows = with_rows rows (record { node = after_end lost relay.node; pending = relay.pending })

some_only : (b : Bool) (row : Row) → is_some (option_map (λ (r : Row). r.held) (cond b (Some row) None)) ≡ true → b ≡ true
some_only true row e = refl
some_only false row e = absurd cc

least : (lost : ConnId) (held : Held) (other : ℕ) → IsSome (held_at (row_of lost held ∷ []) lost other) → held.request.header.hop ≤ other
least lost held other some =
    let key = some_only (has_key lost other (row_of lost held)) (row_of lost held) some in
    let parts = and_parts (is_sent_on lost (row_of lost held)) (held.request.header.hop == other) key in
    let same : held.request.header.hop ≡ other = eqb-true held.request.header.hop other parts.1 in omega (arith, same)

none_at : (b c : Bool) (row : Row) → b ≡ false → option_map (λ (r : Row). r.held) (cond (b && c) (Some row) None) ≡ None
none_at true c row off = absurd cc
none_at false c row off = refl

none_on : (lost : ConnId) (row : Row) → is_sent_on lost row ≡ false → (hop : ℕ) → held_at (row ∷ []) lost hop ≡ None
none_on lost row off hop = none_at (is_sent_on lost row) _ row off

-- its one request, once what came on the connection has no origin
abbrev pub Holds : RelayState → ConnId → Held → Type 0
Holds relay lost held =
    (without_origins lost relay.pending.rows ≡ row_of lost held ∷ [])
    × (held_at (row_of lost held ∷ []) lost held.request.header.hop ≡ Some held)

whole : {relay : RelayState} {lost : ConnId} {items : Traffic} {after : RelayState} (rows : List Row) → without_origins lost relay.pending.rows ≡ rows
    → OnConnLost relay lost items after → (left : List Row) × Failover (after_end lost relay.node) lost rows items left × (after ≡ ended relay lost left)
whole {relay = relay} {lost = lost} {items = items} rows is on = (
  on.rows,
  subst (λ (x : List Row). Failover (after_end lost relay.node) lost x items on.rows) is on.failover,
  on.after,
)

built : (relay : RelayState) (lost : ConnId) (items : Traffic) (rows left : List Row) → without_origins lost relay.pending.rows ≡ rows
    → Failover (after_end lost relay.node) lost rows items left → OnConnLost relay lost items (ended relay lost left)
built relay lost items rows left is f = record {
  rows = left;
  failover = subst (λ (x : List Row). Failover (after_end lost relay.node) lost x items left) (sym is) f;
  after = refl;
}

-- nothing was sent on the connection
pub stays : (relay : RelayState) (lost : ConnId) (row : Row) → without_origins lost relay.pending.rows ≡ row ∷ [] → is_sent_on lost row ≡ false
    → Only (OnConnLost relay lost) [] (ended relay lost (row ∷ []))
stays relay lost row is off items after = (
  λ on.
      let w = whole (row ∷ []) is on in
      let e = ends_elsewhere row off w.1 in
      (e.0, w.2 ∙ ap (λ (x : List Row). ended relay lost x) e.1),
  λ p. both (OnConnLost relay lost) items [] after (ended relay lost (row ∷ [])) p.0 p.1
      (built relay lost [] (row ∷ []) (row ∷ []) is (none_left (row ∷ []) (none_on lost row off))),
)

-- it goes out again where a candidate is up
pub sends_again : (relay : RelayState) (lost : ConnId) (held : Held) (origin : Origin) (to : ConnId) → Holds relay lost held → held.origin ≡ Some origin
    → next_hop_again (after_end lost relay.node) held.request ≡ Ok to
    → ((hop : ℕ) → is_sent_on lost (resent to hop (row_of lost held)) ≡ false) → is_sent_on to (row_of lost held) ≡ false
    → (items : Traffic) (after : RelayState) → OnConnLost relay lost items after
    ↔ ((hop : ℕ) × (items ≡ (to, again hop held.request) ∷ []) × (after ≡ ended relay lost (resent to hop (row_of lost held) ∷ [])))
sends_again relay lost held origin to holds o n off free items after = (
  λ on.
      let w = whole (row_of lost held ∷ []) holds.0 on in
      let g = goes held holds.1 w.1 in
      let a = again-only origin to o n g.one in
      let rest = subst (λ (x : List Row). Failover (after_end lost relay.node) lost x g.more w.0) a.2 g.rest in
      let e = ends_elsewhere (resent to a.0 (row_of lost held)) (off a.0) rest in (
        a.0,
        g.parts ∙ (ap (λ (x : Traffic). x ++ g.more) a.1 ∙ ap (λ (x : Traffic). (to, again a.0 held.request) ∷ x) e.0),
        w.2 ∙ ap (λ (x : List Row). ended relay lost x) e.1,
      ),
  λ p.
      let row = resent to p.0 (row_of lost held) in
      both (OnConnLost relay lost) items ((to, again p.0 held.request) ∷ []) after (ended relay lost (row ∷ [])) p.1 p.2
      (built relay lost ((to, again p.0 held.request) ∷ []) (row_of lost held ∷ []) (row ∷ []) holds.0
      (least_first held.request.header.hop held (row_of lost held ∷ []) (row ∷ []) (row ∷ []) ((to, again p.0 held.request) ∷ []) [] holds.1 (least lost held)
      (sent_again origin to p.0 (row ∷ []) o n (none_on to (row_of lost held) free p.0) (record { rest = []; was = none_left_of (row_of lost held); is = none_left_of row }))
      (none_left (row ∷ []) (none_on lost row (off p.0))))),
)

nothing_at : (lost : ConnId) (hop : ℕ) → held_at [] lost hop ≡ None
nothing_at lost hop = refl

-- what may become of it
abbrev Becomes : RelayState → ConnId → Held → Traffic → List Row → Type 0
Becomes relay lost held sent between = RequestFailover (after_end lost relay.node) lost held (row_of lost held ∷ []) sent between

-- it is taken out: this is sent for it
taken_out : (relay : RelayState) (lost : ConnId) (held : Held) (sent : Traffic) → Holds relay lost held
    → ((items : Traffic) (between : List Row) → Becomes relay lost held items between → (items ≡ sent) × (between ≡ []))
    → Becomes relay lost held sent [] → sent ++ [] ≡ sent → Only (OnConnLost relay lost) sent (ended relay lost [])
taken_out relay lost held sent holds only one end items after = (
  λ on.
      let w = whole (row_of lost held ∷ []) holds.0 on in
      let g = goes held holds.1 w.1 in
      let a = only g.sent g.between g.one in
      let e = ends_empty (subst (λ (x : List Row). Failover (after_end lost relay.node) lost x g.more w.0) a.1 g.rest) in (
        g.parts ∙ (ap (λ (x : Traffic). x ++ g.more) a.0 ∙ (ap (λ (x : Traffic). sent ++ x) e.0 ∙ end)),
        w.2 ∙ ap (λ (x : List Row). ended relay lost x) e.1,
      ),
  λ p. both (OnConnLost relay lost) items sent after (ended relay lost []) p.0 p.1
      (subst (λ (x : Traffic). OnConnLost relay lost x (ended relay lost [])) end
      (built relay lost (sent ++ []) (row_of lost held ∷ []) [] holds.0
      (least_first held.request.header.hop held (row_of lost held ∷ []) [] [] sent [] holds.1 (least lost held) one (none_left [] (nothing_at lost))))),
)

-- its asker is told where none is up
pub gives_up : (relay : RelayState) (lost : ConnId) (held : Held) (origin : Origin) (code : ResultCode) → Holds relay lost held → held.origin ≡ Some origin
    → next_hop_again (after_end lost relay.node) held.request ≡ Err code
    → Only (OnConnLost relay lost) (answer_by (after_end lost relay.node) held origin code) (ended relay lost [])
gives_up relay lost held origin code holds o n =
    taken_out relay lost held (answer_by (after_end lost relay.node) held origin code) holds (λ items between one. given_up-only origin code o n one)
    (given_up origin code [] o n (none_left_of (row_of lost held))) refl

-- nothing is sent where nobody waits for it
pub forgets : (relay : RelayState) (lost : ConnId) (held : Held) → Holds relay lost held → held.origin ≡ None
    → Only (OnConnLost relay lost) [] (ended relay lost [])
forgets relay lost held holds o =
    taken_out relay lost held [] holds (λ items between one. forgotten-only o one) (forgotten [] o (none_left_of (row_of lost held))) refl
