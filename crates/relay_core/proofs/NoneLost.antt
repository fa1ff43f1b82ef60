-- A relay loses no request: each that comes is answered at once, or waits for its answer.
use Rattle.std.proofs.Common.{◌≡◌, ℕ, ◌+◌, ◌==◌, ◌&&◌, not, Bool, true, false, cond, is_some, MatchBool, MatchOption, List, [], ◌∷◌, Option, Some, None, refl, ap, sym, ◌∙◌, arith}
use Rattle.std.specs.List.{count_by}
use Rattle.std.proofs.lemmas.Bool.{and_parts}
use Rattle.dia_base.specs.declared.number.ConnId.{ConnId}
use Rattle.dia_base.specs.declared.number.NodeNo.{NodeNo}
use Rattle.dia_message.specs.declared.message.Message.{Message}
use Rattle.dia_message.specs.Traffic.{Traffic}
use Rattle.cc_view.specs.Answer.{refusal_of}
use Rattle.cc_view.specs.Refusal.{refusal_with}
use Rattle.relay_hops.specs.declared.row.Held.{Held}
use Rattle.relay_hops.specs.declared.row.Origin.{Origin}
use Rattle.relay_hops.specs.declared.row.Row.{Row}
use Rattle.relay_hops.specs.PendingTable.{IsMap, held_at, under, again, resent, orphaned, but_from}
use Rattle.relay_hops.proofs.LookUps.{moved-rest}
use Rattle.relay_peers.specs.declared.peers.LinkedPeer.{LinkedPeer}
use Rattle.relay_peers.specs.declared.peers.Link.{Link}
use Rattle.relay_peers.specs.PeerTable.{peer_in}
use Rattle.relay_core.specs.declared.node.RelayNode.{RelayNode}
use Rattle.relay_core.specs.declared.error.RelayError.{RelayError}
use Rattle.relay_core.specs.declared.run.RelayEvent.{RelayEvent}
use Rattle.relay_core.specs.declared.run.RelayEvent.TheVariants.{Up, Received, Lost, Restart}
use Rattle.relay_core.specs.Acts.{Act, happened, sent, acts_with, is_under, one, requests_in, answers_in}
use Rattle.relay_core.specs.Connecting.{up_fault, after_up}
use Rattle.relay_core.specs.Failover.{RequestFailover, forgotten, sent_again, given_up, Failover, none_left, least_first, after_end, without_origins}
use Rattle.relay_core.specs.Forwarding.{with_record}
use Rattle.relay_core.specs.Promise.{LosesNoRequest, comes_from, forgets, is_from}
use Rattle.relay_core.specs.RelayRun.{IsIdle}
use Rattle.relay_core.specs.Staying.{OnConnLostAmong, OnEventAmong, OnMessageAmong, OnRequestAmong, node_among, relay_among}
use Rattle.relay_core.specs.RelayState.{RelayState, peer_on}
use Rattle.relay_core.specs.RelayStep.{OnRequest, refused, forwarded, OnAnswer, sent_back, dropped, ignored, row_of, held_for}
use Rattle.relay_core.proofs.Holding.{Holding, count-with, holding-orphans}
use Rattle.relay_core.proofs.OnceEach.{IsGone, cause-held, gone, not_gone}
use Rattle.relay_core.proofs.Promising.{acts_with-more, refusal-flag, refusal-hop}
use Rattle.relay_core.proofs.Reaching.{none_on}
use Rattle.relay_core.proofs.Unanswered.{same_conn}

-- what waits and what is answered, by these acts, is what waited and what was asked
abbrev Even : ConnId → ℕ → List Row → List Row → List Act → Type 0
Even conn hop rows new acts = count_by (is_from conn hop) new + answers_in conn hop acts ≡ count_by (is_from conn hop) rows + requests_in conn hop acts

-- ---- a message comes

even-request : (conn : ConnId) (hop : ℕ) (relay next : RelayState) (on : ConnId) (sender : List ℕ) (request : Message) (items : Traffic) → request.header.request ≡ true → OnRequest relay on sender request items next
    → Even conn hop relay.pending.rows next.pending.rows (acts_with items (happened (Received on request) ∷ []))
even-request conn hop relay next on sender request items flag step = go step
  where
    asked : one (request.header.request && is_under conn hop on request) ≡ one (is_under conn hop on request)
    asked = ap (λ (b : Bool). one (b && is_under conn hop on request)) flag

    go : {out : Traffic} {after : RelayState} → OnRequest relay on sender request out after → Even conn hop relay.pending.rows after.pending.rows (acts_with out (happened (Received on request) ∷ []))
    go (refused refusal e) =
        let answer = refusal_of relay.node.name relay.node.realm request refusal in
        let told = ap (λ (b : Bool). one (not b && is_under conn hop on answer)) (refusal-flag relay.node.name relay.node.realm request refusal) in
        let same = ap (λ (n : ℕ). one ((on.0 == conn.0) && (n == hop))) (refusal-hop relay.node.name relay.node.realm request refusal) in
        let all = asked in
        omega arith
    go (forwarded to fresh rows count e free w) =
        let message = under fresh (with_record sender request) in
        let whole = count-with (is_from conn hop) (row_of to (held_for on request message)) relay.pending.rows rows w in
        let its : one (is_from conn hop (row_of to (held_for on request message))) ≡ one (is_under conn hop on request) = refl in
        let none = ap (λ (b : Bool). one (not b && is_under conn hop to message)) flag in
        let all = asked in
        omega arith

even-answer : (conn : ConnId) (hop : ℕ) (relay next : RelayState) (on : ConnId) (answer : Message) (items : Traffic) → answer.header.request ≡ false → OnAnswer relay on answer items next
    → Even conn hop relay.pending.rows next.pending.rows (acts_with items (happened (Received on answer) ∷ []))
even-answer conn hop relay next on answer items flag step = go step
  where
    none_asked : one (answer.header.request && is_under conn hop on answer) ≡ 0
    none_asked = ap (λ (b : Bool). one (b && is_under conn hop on answer)) flag

    go : {out : Traffic} {after : RelayState} → OnAnswer relay on answer out after → Even conn hop relay.pending.rows after.pending.rows (acts_with out (happened (Received on answer) ∷ []))
    go (sent_back held origin rows e from w) =
        let whole = count-with (is_from conn hop) (row_of on held) rows relay.pending.rows w in
        let its : one (is_from conn hop (row_of on held)) ≡ one (is_under conn hop origin.conn (under origin.hop answer)) = ap (λ (o : Option Origin). one (comes_from conn hop o)) from in
        let told = ap (λ (b : Bool). one (not b && is_under conn hop origin.conn (under origin.hop answer))) flag in
        let all = none_asked in
        omega arith
    go (dropped held rows e none w) =
        let whole = count-with (is_from conn hop) (row_of on held) rows relay.pending.rows w in
        let its : one (is_from conn hop (row_of on held)) ≡ 0 = ap (λ (o : Option Origin). one (comes_from conn hop o)) none in
        let all = none_asked in
        omega arith
    go (ignored none) = let all = none_asked in omega arith

-- ---- a connection ends

-- what is held on the connection are requests
abbrev AreRequests : ConnId → List Row → Type 0
AreRequests lost rows = (hop : ℕ) (held : Held) → held_at rows lost hop ≡ Some held → held.request.header.request ≡ true

requests-rest : (lost : ConnId) (hop : ℕ) (rows left : List Row) → IsGone lost hop rows left → AreRequests lost rows → AreRequests lost left
requests-rest lost hop rows left is all other held e = all other held (not_gone (other == hop) (held_at rows lost other) held (sym (is other) ∙ e)).1

none-sent : (conn : ConnId) (hop : ℕ) (to : ConnId) (message : Message) → message.header.request ≡ true → one (not message.header.request && is_under conn hop to message) ≡ 0
none-sent conn hop to message flag = ap (λ (b : Bool). one (not b && is_under conn hop to message)) flag

even-failover_one : (conn : ConnId) (hop : ℕ) (node : RelayNode) (lost : ConnId) (held : Held) (rows left : List Row) (items : Traffic) (acts : List Act) → held.request.header.request ≡ true
    → RequestFailover node lost held rows items left → count_by (is_from conn hop) left + answers_in conn hop (acts_with items acts) ≡ count_by (is_from conn hop) rows + answers_in conn hop acts
even-failover_one conn hop node lost held rows left items acts flag step = go step
  where
    go : {out : Traffic} {after : List Row} → RequestFailover node lost held rows out after → count_by (is_from conn hop) after + answers_in conn hop (acts_with out acts) ≡ count_by (is_from conn hop) rows + answers_in conn hop acts
    go (forgotten after none w) =
        let whole = count-with (is_from conn hop) (row_of lost held) after rows w in
        let its : one (is_from conn hop (row_of lost held)) ≡ 0 = ap (λ (o : Option Origin). one (comes_from conn hop o)) none in
        omega arith
    go (sent_again origin to fresh after from way free w) =
        let parts = moved-rest (row_of lost held) (resent to fresh (row_of lost held)) rows after w in
        let old = count-with (is_from conn hop) (row_of lost held) parts.0 rows parts.1 in
        let new = count-with (is_from conn hop) (resent to fresh (row_of lost held)) parts.0 after parts.2 in
        let none = none-sent conn hop to (again fresh held.request) flag in
        omega arith
    go (given_up origin code after from way w) =
        let answer = under origin.hop (refusal_of node.name node.realm held.request (refusal_with code)) in
        let whole = count-with (is_from conn hop) (row_of lost held) after rows w in
        let its : one (is_from conn hop (row_of lost held)) ≡ one (is_under conn hop origin.conn answer) = ap (λ (o : Option Origin). one (comes_from conn hop o)) from in
        let told = ap (λ (b : Bool). one (not b && is_under conn hop origin.conn answer)) (refusal-flag node.name node.realm held.request (refusal_with code)) in
        omega arith

even-failover : (conn : ConnId) (hop : ℕ) (node : RelayNode) (lost : ConnId) {rows left : List Row} {items : Traffic} (acts : List Act) → peer_in node.peers.links lost ≡ None → IsMap rows → AreRequests lost rows
    → Failover node lost rows items left → count_by (is_from conn hop) left + answers_in conn hop (acts_with items acts) ≡ count_by (is_from conn hop) rows + answers_in conn hop acts
even-failover conn hop node lost acts down map all (none_left rows none) = refl
even-failover conn hop node lost acts down map all (least_first on held rows between left items more at_hop first step rest) =
    let one_done = even-failover_one conn hop node lost held rows between items acts (all on held at_hop) step in
    let after = gone node lost on held down at_hop map step in
    let later = even-failover conn hop node lost (acts_with items acts) down after.0 (requests-rest lost on rows between after.1 all) rest in
    let same = ap (answers_in conn hop) (acts_with-more items more acts) in
    omega arith

-- of another connection as much waits as before
still_from : (conn : ConnId) (hop : ℕ) (lost : ConnId) (o : Option Origin) → (lost.0 == conn.0) ≡ false → comes_from conn hop (but_from lost o) ≡ comes_from conn hop o
still_from conn hop lost None other = refl
still_from conn hop lost (Some origin) other = by_conn (origin.conn.0 == lost.0) refl
  where
    by_conn : (b : Bool) → (origin.conn.0 == lost.0) ≡ b → comes_from conn hop (but_from lost (Some origin)) ≡ comes_from conn hop (Some origin)
    by_conn false e = ap (λ (b : Bool). comes_from conn hop (cond b None (Some origin))) e
    by_conn true e =
        ap (λ (b : Bool). comes_from conn hop (cond b None (Some origin))) e
        ∙ sym (ap (λ (c : ConnId). (c.0 == conn.0) && (origin.hop == hop)) (same_conn origin.conn lost e) ∙ ap (λ (b : Bool). b && (origin.hop == hop)) other)

as_many : (conn : ConnId) (hop : ℕ) (lost : ConnId) (rows : List Row) → (lost.0 == conn.0) ≡ false → count_by (is_from conn hop) (without_origins lost rows) ≡ count_by (is_from conn hop) rows
as_many conn hop lost [] other = refl
as_many conn hop lost (row ∷ rows) other =
    let rest = as_many conn hop lost rows other in
    let same = ap one (still_from conn hop lost row.held.origin other) in
    let old = count-with (is_from conn hop) row rows (row ∷ rows) (record { before = []; after = rows; without = refl; whole = refl }) in
    let new = count-with (is_from conn hop) (orphaned lost row) (without_origins lost rows) (without_origins lost (row ∷ rows)) (record { before = []; after = without_origins lost rows; without = refl; whole = refl }) in
    omega arith

-- what is sent asks nothing
requests-same : (conn : ConnId) (hop : ℕ) (items : Traffic) (acts : List Act) → requests_in conn hop (acts_with items acts) ≡ requests_in conn hop acts
requests-same conn hop [] acts = refl
requests-same conn hop (item ∷ items) acts = requests-same conn hop items (sent item.0 item.1 ∷ acts)

even-lost : (conn : ConnId) (hop : ℕ) (staying : List Link) (before after : RelayState) (lost : ConnId) (items : Traffic) (acts : List Act) → (lost.0 == conn.0) ≡ false → Holding acts before.pending.rows → OnConnLostAmong staying before lost items after
    → Even conn hop before.pending.rows after.pending.rows (acts_with items (happened (Lost lost) ∷ []))
even-lost conn hop staying before after lost items acts other h step =
    let orphans = holding-orphans lost acts before.pending.rows h in
    let now = happened (Lost lost) ∷ [] in
    let all = even-failover conn hop (after_end lost (node_among staying before.node)) lost now (none_on staying lost) orphans.map
    (λ on held e. (cause-held acts lost on (without_origins lost before.pending.rows) held orphans.causes e).flag) step.failover in
    let many = as_many conn hop lost before.pending.rows other in
    let same = requests-same conn hop items now in
    let rows = ap (λ (s : RelayState). count_by (is_from conn hop) s.pending.rows) step.after in
    omega arith

-- ---- any event

-- nothing is sent, and what is pending stays
even-quiet : (conn : ConnId) (hop : ℕ) (event : RelayEvent) (before after : RelayState) (items : Traffic) → requests_in conn hop (happened event ∷ []) ≡ 0 → items ≡ [] → after.pending.rows ≡ before.pending.rows
    → Even conn hop before.pending.rows after.pending.rows (acts_with items (happened event ∷ []))
even-quiet conn hop event before after items none nothing same =
    let sent_none = ap (λ (xs : Traffic). answers_in conn hop (acts_with xs (happened event ∷ []))) nothing in
    let asked_none = requests-same conn hop items (happened event ∷ []) in
    let rows = ap (count_by (is_from conn hop)) same in
    omega (arith, none)

even-idle : (conn : ConnId) (hop : ℕ) (event : RelayEvent) (before after : RelayState) (items : Traffic) → requests_in conn hop (happened event ∷ []) ≡ 0 → IsIdle before items after
    → Even conn hop before.pending.rows after.pending.rows (acts_with items (happened event ∷ []))
even-idle conn hop event before after items none idle = even-quiet conn hop event before after items none idle.0 (ap (λ (s : RelayState). s.pending.rows) idle.1)

even-up : (conn : ConnId) (hop : ℕ) (peer : NodeNo) (on : ConnId) (before after : RelayState) (items : Traffic) (fault : Option RelayError)
    → MatchOption fault ((items ≡ []) × (after ≡ after_up before peer on)) (λ _. IsIdle before items after) → Even conn hop before.pending.rows after.pending.rows (acts_with items (happened (Up peer on) ∷ []))
even-up conn hop peer on before after items None m = even-quiet conn hop (Up peer on) before after items refl m.0 (ap (λ (s : RelayState). s.pending.rows) m.1)
even-up conn hop peer on before after items (Some fault) m = even-idle conn hop (Up peer on) before after items refl m

-- a message comes on a connection that no peer is up on, and so not on this one
none_here : (conn : ConnId) (hop : ℕ) (node : RelayNode) (on : ConnId) (message : Message) → is_some (peer_on node conn) ≡ true → peer_on node on ≡ None → requests_in conn hop (happened (Received on message) ∷ []) ≡ 0
none_here conn hop node on message up none = by_key (message.header.request && is_under conn hop on message) refl
  where
    by_key : (b : Bool) → (message.header.request && is_under conn hop on message) ≡ b → requests_in conn hop (happened (Received on message) ∷ []) ≡ 0
    by_key false e = let zero = ap one e in omega arith
    by_key true e =
        let key = and_parts message.header.request (is_under conn hop on message) e in
        let same = same_conn on conn (and_parts (on.0 == conn.0) (message.header.hop == hop) key.1).0 in
        absurd (let no : is_some (peer_on node conn) ≡ false = ap (λ (c : ConnId). is_some (peer_on node c)) (sym same) ∙ ap is_some none in cc)

even-message : (conn : ConnId) (hop : ℕ) (staying : List Link) (before after : RelayState) (on : ConnId) (sender : List ℕ) (message : Message) (items : Traffic) (flag : Bool) → message.header.request ≡ flag
    → MatchBool flag (OnRequestAmong staying before on sender message items after) (OnAnswer before on message items after) → Even conn hop before.pending.rows after.pending.rows (acts_with items (happened (Received on message) ∷ []))
even-message conn hop staying before after on sender message items true is step = even-request conn hop (relay_among staying before) (relay_among staying after) on sender message items is step.does
even-message conn hop staying before after on sender message items false is step = even-answer conn hop before after on message items is step

even-received : (conn : ConnId) (hop : ℕ) (staying : List Link) (before after : RelayState) (on : ConnId) (message : Message) (items : Traffic) (peer : Option LinkedPeer) → is_some (peer_on before.node conn) ≡ true → peer_on before.node on ≡ peer
    → MatchOption peer (IsIdle before items after) (λ sender. OnMessageAmong staying before on sender.name message items after) → Even conn hop before.pending.rows after.pending.rows (acts_with items (happened (Received on message) ∷ []))
even-received conn hop staying before after on message items None up none m = even-idle conn hop (Received on message) before after items (none_here conn hop before.node on message up none) m
even-received conn hop staying before after on message items (Some sender) up is m = even-message conn hop staying before after on sender.name message items message.header.request refl m

maybe-lost : (conn : ConnId) (hop : ℕ) (staying : List Link) (before after : RelayState) (lost : ConnId) (items : Traffic) (acts : List Act) (peer : Option NodeNo) → (lost.0 == conn.0) ≡ false → Holding acts before.pending.rows
    → MatchOption peer (IsIdle before items after) (λ _. OnConnLostAmong staying before lost items after) → Even conn hop before.pending.rows after.pending.rows (acts_with items (happened (Lost lost) ∷ []))
maybe-lost conn hop staying before after lost items acts None other h m = even-idle conn hop (Lost lost) before after items refl m
maybe-lost conn hop staying before after lost items acts (Some peer) other h m = even-lost conn hop staying before after lost items acts other h m

even-event : (conn : ConnId) (hop : ℕ) (acts : List Act) (staying : List Link) (before after : RelayState) (event : RelayEvent) (items : Traffic) → is_some (peer_on before.node conn) ≡ true → forgets conn event ≡ false → Holding acts before.pending.rows
    → OnEventAmong staying before event items after → Even conn hop before.pending.rows after.pending.rows (acts_with items (happened event ∷ []))
even-event conn hop acts staying before after (Up peer on) items up stays h step = even-up conn hop peer on before after items (up_fault before peer on) step
even-event conn hop acts staying before after (Received on message) items up stays h step = even-received conn hop staying before after on message items (peer_on before.node on) up refl step
even-event conn hop acts staying before after (Lost lost) items up stays h step = maybe-lost conn hop staying before after lost items acts (peer_in before.node.peers.links lost) stays h step
even-event conn hop acts staying before after Restart items up stays h step = absurd cc

-- where these stay
pub loses_none : (acts : List Act) (staying : List Link) (before after : RelayState) (event : RelayEvent) (items : Traffic) → Holding acts before.pending.rows → OnEventAmong staying before event items after
    → LosesNoRequest (record { before = before; event = event; sent = items; after = after })
loses_none acts staying before after event items h step = λ conn hop up stays. even-event conn hop acts staying before after event items up stays h step
