-- When a connection ends, what goes out goes out for requests that were sent on it, each message for another one.
use Rattle.std.proofs.Common.{◌≡◌, ℕ, ◌+◌, ◌≤◌, ◌==◌, Bool, true, false, cond, is_some, MatchOption, List, [], ◌∷◌, ◌++◌, Option, Some, None, option_map, Ok, refl, ap, sym, subst, ◌∙◌, arith}
use Rattle.std.specs.List.{AllByRecursion, find, count_by}
use Rattle.std.proofs.lemmas.Bool.{eq-eqb}
use Rattle.dia_base.specs.declared.number.ConnId.{ConnId}
use Rattle.dia_base.specs.declared.number.NodeNo.{NodeNo}
use Rattle.dia_message.specs.Traffic.{Traffic}
use Rattle.cc_view.specs.Answer.{refusal_of}
use Rattle.cc_view.specs.Refusal.{avps_of, refusal_with}
use Rattle.relay_hops.specs.declared.row.Held.{Held}
use Rattle.relay_hops.specs.declared.row.Row.{Row}
use Rattle.relay_hops.specs.PendingTable.{IsMap, IsMoved, hop_of, has_key, held_at, under, again, resent}
use Rattle.relay_hops.proofs.InUse.{its_hop}
use Rattle.relay_hops.proofs.LookUps.{count-free}
use Rattle.relay_hops.proofs.Rows.{IsMap-less, IsMap-more, row_of_key}
use Rattle.relay_peers.specs.declared.peers.Link.{Link}
use Rattle.relay_peers.specs.PeerTable.{peer_in}
use Rattle.relay_core.specs.declared.node.RelayNode.{RelayNode}
use Rattle.relay_core.specs.declared.run.RelayEvent.{RelayEvent}
use Rattle.relay_core.specs.Acts.{Act, is_in_use, last_sent}
use Rattle.relay_core.specs.Failover.{RequestFailover, forgotten, sent_again, given_up, Failover, none_left, least_first, avps_in, after_end, without_origins}
use Rattle.relay_core.specs.Promise.{EachForAnother, FailsOverOnce}
use Rattle.relay_core.specs.Promise.EachForAnother.{none_more, one_more}
use Rattle.relay_core.specs.RelayRun.{IsIdle}
use Rattle.relay_core.specs.Staying.{OnConnLostAmong, OnEventAmong, node_among}
use Rattle.relay_core.specs.RelayState.{RelayState}
use Rattle.relay_core.specs.RelayStep.{row_of}
use Rattle.relay_core.proofs.Holding.{Holding, RowCause, count-with, holding-orphans}
use Rattle.relay_core.proofs.Planning.{held-taken_out, held-moved_away}
use Rattle.relay_core.proofs.Reaching.{next_hop-never, none_on}
use Rattle.relay_core.proofs.Unanswered.{Unanswered, OfPending, IsWaiting, pending-orphans}

-- ---- what is held on the connection

its_cause : (acts : List Act) (to : ConnId) (hop : ℕ) (row : Row) (held : Held) (b : Bool) (rest : Option Row) → has_key to hop row ≡ b → RowCause acts row
    → (option_map (λ (r : Row). r.held) rest ≡ Some held → RowCause acts (row_of to held))
    → option_map (λ (r : Row). r.held) (cond b (Some row) rest) ≡ Some held → RowCause acts (row_of to held)
its_cause acts to hop row held false rest key cause later e = later e
its_cause acts to hop row held true rest key cause later e =
    let same : row.held ≡ held = cc in
    subst (λ (h : Held). RowCause acts (row_of to h)) same (subst (RowCause acts) (row_of_key to hop row key) cause)

-- what is held under an identifier has its cause
pub cause-held : (acts : List Act) (to : ConnId) (hop : ℕ) (rows : List Row) (held : Held) → AllByRecursion (RowCause acts) rows → held_at rows to hop ≡ Some held → RowCause acts (row_of to held)
cause-held acts to hop [] held all e = absurd cc
cause-held acts to hop (row ∷ rows) held all e =
    its_cause acts to hop row held (has_key to hop row) (find (has_key to hop) rows) refl all.0 (cause-held acts to hop rows held all.1) e

-- and is the last request that was sent under it
last-held : (acts : List Act) (to : ConnId) (hop : ℕ) (rows : List Row) (held : Held) → AllByRecursion (RowCause acts) rows → held_at rows to hop ≡ Some held → last_sent to hop acts ≡ Some held.request
last-held acts to hop rows held all e = sym (ap (λ (n : ℕ). last_sent to n acts) (its_hop rows to hop held e)) ∙ (cause-held acts to hop rows held all e).last

-- each identifier that something is held under is no less than this one, and in use
abbrev AreKnown : List Act → ConnId → ℕ → List Row → Type 0
AreKnown acts lost least rows = (hop : ℕ) (held : Held) → held_at rows lost hop ≡ Some held → (least ≤ hop) × (is_in_use lost hop acts ≡ true) × (last_sent lost hop acts ≡ Some held.request)

-- ---- one request is gone from the connection

-- nothing is held under this identifier any more, and under each other one what was held
abbrev pub IsGone : ConnId → ℕ → List Row → List Row → Type 0
IsGone lost hop rows left = (other : ℕ) → held_at left lost other ≡ cond (other == hop) None (held_at rows lost other)

pub not_gone : (b : Bool) (o : Option Held) (held : Held) → cond b None o ≡ Some held → (b ≡ false) × (o ≡ Some held)
not_gone true o held e = absurd cc
not_gone false o held e = (refl, e)

known-rest : (acts : List Act) (lost : ConnId) (least hop : ℕ) (rows left : List Row) → ((other : ℕ) → is_some (held_at rows lost other) ≡ true → hop ≤ other) → IsGone lost hop rows left
    → AreKnown acts lost least rows → AreKnown acts lost (hop + 1) left
known-rest acts lost least hop rows left first gone known other held e =
    let there = not_gone (other == hop) (held_at rows lost other) held (sym (gone other) ∙ e) in
    let le : hop ≤ other = first other (ap is_some there.1) in
    let ne : other ≡ hop → ⊥ = λ same. absurd (let yes : (other == hop) ≡ true = eq-eqb other hop same in let no : (other == hop) ≡ false = there.0 in cc) in
    let its = known other held there.1 in
    (omega (arith, ne), its.1, its.2)

IsMap-moved : (row other : Row) (old new : List Row) → IsMoved row other old new → count_by (has_key other.conn (hop_of other)) old ≡ 0 → IsMap old → IsMap new
IsMap-moved row other old new w none m =
    let old_with = count-with (has_key other.conn (hop_of other)) row w.rest old w.was in
    IsMap-more other w.rest new w.is (omega arith) (IsMap-less row w.rest old w.was m)

pub gone : (node : RelayNode) (lost : ConnId) (hop : ℕ) (held : Held) {rows left : List Row} {items : Traffic} → peer_in node.peers.links lost ≡ None → held_at rows lost hop ≡ Some held → IsMap rows
    → RequestFailover node lost held rows items left → IsMap left × IsGone lost hop rows left
gone node lost hop held {rows = rows} down e map (forgotten left from w) = (IsMap-less (row_of lost held) left rows w map, held-taken_out lost hop held rows left e w map)
gone node lost hop held {rows = rows} down e map (sent_again origin to fresh left from way free w) =
    let still = IsMap-moved (row_of lost held) (resent to fresh (row_of lost held)) rows left w (count-free rows to fresh free) map in (
      still,
      held-moved_away lost to hop fresh held rows left e w map still
          (λ same. next_hop-never node lost down (avps_in (avps_of held.request.body)) held.request.header.application (way ∙ ap (λ (conn : ConnId). Ok conn) same)),
    )
gone node lost hop held {rows = rows} down e map (given_up origin code left from way w) = (IsMap-less (row_of lost held) left rows w map, held-taken_out lost hop held rows left e w map)

-- ---- all of them

fewer : (name realm : List ℕ) (acts : List Act) (lost : ConnId) (least : ℕ) {from : ℕ} {items : Traffic} → least ≤ from → EachForAnother name realm acts lost from items → EachForAnother name realm acts lost least items
fewer name realm acts lost least le (none_more from) = none_more least
fewer name realm acts lost least le (one_more from hop earlier to message items more used last goes rest) = one_more least hop earlier to message items (omega arith) used last goes rest

goes_out : (name realm : List ℕ) (node : RelayNode) (lost : ConnId) (acts : List Act) (least hop : ℕ) (held : Held) {rows left : List Row} {items : Traffic} (more : Traffic) → node.name ≡ name → node.realm ≡ realm
    → least ≤ hop → is_in_use lost hop acts ≡ true → last_sent lost hop acts ≡ Some held.request → RequestFailover node lost held rows items left
    → EachForAnother name realm acts lost (hop + 1) more → EachForAnother name realm acts lost least (items ++ more)
goes_out name realm node lost acts least hop held more n r le used last (forgotten left from w) later = fewer name realm acts lost least (omega arith) later
goes_out name realm node lost acts least hop held more n r le used last (sent_again origin to fresh left from way free w) later =
    one_more least hop held.request to (again fresh held.request) more le used last (Rattle.relay_core.specs.Promise.IsFor.sent_again refl) later
goes_out name realm node lost acts least hop held more n r le used last (given_up origin code left from way w) later =
    one_more least hop held.request origin.conn (under origin.hop (refusal_of node.name node.realm held.request (refusal_with code))) more le used last
    (Rattle.relay_core.specs.Promise.IsFor.given_up code
    (ap (λ (h : List ℕ). under origin.hop (refusal_of h node.realm held.request (refusal_with code))) n ∙ ap (λ (h : List ℕ). under origin.hop (refusal_of name h held.request (refusal_with code))) r)) later

each_goes_out : (name realm : List ℕ) (node : RelayNode) (lost : ConnId) (acts : List Act) (least : ℕ) {rows left : List Row} {items : Traffic} → node.name ≡ name → node.realm ≡ realm
    → peer_in node.peers.links lost ≡ None → IsMap rows → AreKnown acts lost least rows → Failover node lost rows items left → EachForAnother name realm acts lost least items
each_goes_out name realm node lost acts least n r down map known (none_left rows none) = none_more least
each_goes_out name realm node lost acts least n r down map known (least_first hop held rows between left items more at_hop first step rest) =
    let its = known hop held at_hop in
    let after = gone node lost hop held down at_hop map step in
    goes_out name realm node lost acts least hop held more n r its.0 its.1 its.2 step
    (each_goes_out name realm node lost acts (hop + 1) n r down after.0 (known-rest acts lost least hop rows between first after.1 known) rest)

-- ---- the event

zero_least : (n : ℕ) → 0 ≤ n
zero_least n = omega arith

by_peer : (name realm : List ℕ) (acts : List Act) (staying : List Link) (before after : RelayState) (lost : ConnId) (items : Traffic) (peer : Option NodeNo) → before.node.name ≡ name → before.node.realm ≡ realm
    → Holding acts before.pending.rows → Unanswered before.node acts before.pending.rows → MatchOption peer (IsIdle before items after) (λ _. OnConnLostAmong staying before lost items after)
    → EachForAnother name realm acts lost 0 items
by_peer name realm acts staying before after lost items None n r h u idle = subst (λ (xs : Traffic). EachForAnother name realm acts lost 0 xs) (sym idle.0) (none_more 0)
by_peer name realm acts staying before after lost items (Some peer) n r h u step =
    let orphans = holding-orphans lost acts before.pending.rows h in
    let waits : OfPending (IsWaiting before.node acts) (without_origins lost before.pending.rows) =
    pending-orphans (IsWaiting before.node acts) (IsWaiting before.node acts) lost before.pending.rows (λ to hop w. w) u.waiting in
    each_goes_out name realm (after_end lost (node_among staying before.node)) lost acts 0 n r (none_on staying lost) orphans.map
    (λ hop held e. (zero_least hop, (waits lost hop (ap is_some e)).in_use, last-held acts lost hop (without_origins lost before.pending.rows) held orphans.causes e))
    step.failover

-- requests go again to those that stay
pub fails_over : (name realm : List ℕ) (acts : List Act) (staying : List Link) (before after : RelayState) (event : RelayEvent) (items : Traffic) → before.node.name ≡ name → before.node.realm ≡ realm
    → Holding acts before.pending.rows → Unanswered before.node acts before.pending.rows → OnEventAmong staying before event items after
    → FailsOverOnce name realm acts (record { before = before; event = event; sent = items; after = after })
fails_over name realm acts staying before after event items n r h u step = λ lost is.
    by_peer name realm acts staying before after lost items (peer_in before.node.peers.links lost) n r h u (subst (λ (e : RelayEvent). OnEventAmong staying before e items after) is step)
