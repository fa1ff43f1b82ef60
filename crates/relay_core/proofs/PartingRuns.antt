-- A relay some of whose peers leave, event by event.
use Rattle.std.proofs.Common.{◌≡◌, ℕ, ◌%◌, ◌==◌, not, Bool, true, false, MatchBool, MatchOption, List, [], ◌∷◌, ◌++◌, Option, Some, None, refl, ap, sym, subst}
use Rattle.std.specs.Prelude.{◌↔◌}
use Rattle.dia_base.specs.declared.number.ConnId.{ConnId}
use Rattle.dia_base.specs.declared.number.NodeNo.{NodeNo}
use Rattle.dia_message.specs.declared.message.Message.{Message}
use Rattle.dia_message.specs.Traffic.{Traffic}
use Rattle.cc_view.specs.Answer.{refusal_of}
use Rattle.cc_view.specs.Refusal.{avps_of, refusal_with}
use Rattle.relay_hops.specs.declared.row.Held.{Held}
use Rattle.relay_hops.specs.declared.row.Row.{Row}
use Rattle.relay_peers.specs.declared.peers.Link.{Link}
use Rattle.relay_peers.specs.declared.peers.LinkedPeer.{LinkedPeer}
use Rattle.relay_peers.specs.PeerTable.{is_on, peer_in, with_link, with_staying, without_conn}
use Rattle.relay_core.specs.declared.error.RelayError.{RelayError}
use Rattle.relay_core.specs.declared.matching.Matching.{Matching}
use Rattle.relay_core.specs.declared.node.RelayNode.{RelayNode}
use Rattle.relay_core.specs.declared.node.RelaySite.{RelaySite}
use Rattle.relay_core.specs.declared.run.RelayEvent.{RelayEvent}
use Rattle.relay_core.specs.declared.run.RelayEvent.TheVariants.{Up, Received, Lost, Restart}
use Rattle.relay_core.specs.Acts.{acts_of}
use Rattle.relay_core.specs.AnswerMatching.{compares_end}
use Rattle.relay_core.specs.Connecting.{after_up, relay_at, up_fault}
use Rattle.relay_core.specs.Failover.{RequestFailover, forgotten, sent_again, given_up, Failover, none_left, least_first, avps_in}
use Rattle.relay_core.specs.Giving.{GiveInTurn}
use Rattle.relay_core.specs.MatchedRun.{AnswerOwn, MatchesEnds}
use Rattle.relay_core.specs.NextHop.{outgoing}
use Rattle.relay_core.specs.PartingRun.{PartingEvent, IsPartingRun, not_begun, one_more, one_dropped, one_leaves}
use Rattle.relay_core.specs.RelayRun.{IsIdle, OnEvent, RelayStep}
use Rattle.relay_core.specs.RelayState.{RelayState, peer_on}
use Rattle.relay_core.specs.RelayStep.{OnAnswer, OnMessage, OnRequest, refused, forwarded, sent_back, dropped, ignored}
use Rattle.relay_core.specs.Staying.{AsksAmong, OnConnLostAmong, OnEventAmong, OnMessageAmong, OnRequestAmong, node_among, staying_after, staying_lost, staying_up}
use Rattle.relay_core.proofs.Among.{answer_node, fewer, other_conn, within-alone, within-left, within-lost, within-up}
use Rattle.relay_core.proofs.Keeping.{Stands, begins, stands_more}
use Rattle.relay_core.proofs.MatchedRuns.{ends_if, own_step}
use Rattle.relay_core.proofs.Promising.{refusal-flag}
use Rattle.relay_core.proofs.Reaching.{next_hop-never}
use Rattle.relay_core.proofs.Rising as rising
use Rattle.relay_core.proofs.Rules.{forwarded-by}
use Rattle.relay_core.proofs.Unanswered.{Within, some_unless}

-- ---- those that stay are among those that are up

up_after : (before after : RelayState) (peer : NodeNo) (conn : ConnId) (sent : Traffic) (staying : List Link) (fault : Option RelayError)
    → MatchOption fault ((sent ≡ []) × (after ≡ after_up before peer conn)) (λ _. IsIdle before sent after) → Within before.node (node_among staying before.node)
    → Within after.node (node_among (staying_up fault staying peer conn) after.node)
up_after before after peer conn sent staying None step within =
    subst (λ (s : RelayState). Within s.node (node_among (with_staying staying peer conn) s.node)) (sym step.1)
    (within-up before.node staying peer conn (with_link before.node.peers.links peer conn) refl within)
up_after before after peer conn sent staying (Some fault) step within =
    subst (λ (s : RelayState). Within s.node (node_among staying s.node)) (sym step.1) within

message_node : (staying : List Link) (before after : RelayState) (conn : ConnId) (sender : List ℕ) (message : Message) (sent : Traffic) (flag : Bool)
    → MatchBool flag (OnRequestAmong staying before conn sender message sent after) (OnAnswer before conn message sent after) → after.node ≡ before.node
message_node staying before after conn sender message sent true step = step.up
message_node staying before after conn sender message sent false step = answer_node step

received_node : (staying : List Link) (before after : RelayState) (conn : ConnId) (message : Message) (sent : Traffic) (peer : Option LinkedPeer)
    → MatchOption peer (IsIdle before sent after) (λ sender. OnMessageAmong staying before conn sender.name message sent after) → after.node ≡ before.node
received_node staying before after conn message sent None step = ap (λ (s : RelayState). s.node) step.1
received_node staying before after conn message sent (Some sender) step = message_node staying before after conn sender.name message sent message.header.request step

lost_after : (before after : RelayState) (conn : ConnId) (sent : Traffic) (staying : List Link) (peer : Option NodeNo)
    → MatchOption peer (IsIdle before sent after) (λ _. OnConnLostAmong staying before conn sent after) → Within before.node (node_among staying before.node)
    → Within after.node (node_among (staying_lost peer staying conn) after.node)
lost_after before after conn sent staying None step within =
    subst (λ (s : RelayState). Within s.node (node_among staying s.node)) (sym step.1) within
lost_after before after conn sent staying (Some peer) step within =
    subst (λ (s : RelayState). Within s.node (node_among (without_conn staying conn) s.node)) (sym step.after) (within-lost before.node staying conn within)

within_after : (before after : RelayState) (event : RelayEvent) (sent : Traffic) (staying : List Link) → OnEventAmong staying before event sent after
    → Within before.node (node_among staying before.node) → Within after.node (node_among (staying_after before event staying) after.node)
within_after before after (Up peer conn) sent staying step within = up_after before after peer conn sent staying (up_fault before peer conn) step within
within_after before after (Received conn message) sent staying step within =
    subst (λ (n : RelayNode). Within n (node_among staying n)) (sym (received_node staying before after conn message sent (peer_on before.node conn) step)) within
within_after before after (Lost conn) sent staying step within = lost_after before after conn sent staying (peer_in before.node.peers.links conn) step within
within_after before after Restart sent staying step within =
    subst (λ (s : RelayState). Within s.node (node_among [] s.node)) (sym step.1) (λ conn none. none)

-- ---- a run

pub goes_on_parting : (site : RelaySite) (start : ℕ) (matching : Matching) {events : List PartingEvent} {past : List RelayStep} {last : RelayState} {staying : List Link}
    → IsPartingRun matching (relay_at site start) events past last staying
    → Stands site.name site.realm past last × Within last.node (node_among staying last.node)
goes_on_parting site start matching not_begun = (begins site start, λ conn none. none)
goes_on_parting site start matching (one_more events event sent past before after staying run stays step) =
    let s = goes_on_parting site start matching run in
    (stands_more site staying past before after event sent s.1 step s.0, within_after before after event sent staying step s.1)
goes_on_parting site start matching (one_dropped events event past before staying run drops) = goes_on_parting site start matching run
goes_on_parting site start matching (one_leaves events conn past before staying run) =
    let s = goes_on_parting site start matching run in
    (s.0, within-left before.node staying conn s.1)

pub counts_parting : (site : RelaySite) (start : ℕ) (matching : Matching) {events : List PartingEvent} {past : List RelayStep} {last : RelayState} {staying : List Link}
    → IsPartingRun matching (relay_at site start) events past last staying → GiveInTurn past → rising.Counts (start % 2147483648) past last.pending
counts_parting site start matching not_begun gives = rising.begins site start
counts_parting site start matching (one_more events event sent past before after staying run stays step) gives =
    rising.step_more (start % 2147483648) past before after event sent (counts_parting site start matching run gives.1) gives.0
counts_parting site start matching (one_dropped events event past before staying run drops) gives = counts_parting site start matching run gives
counts_parting site start matching (one_leaves events conn past before staying run) gives = counts_parting site start matching run gives

own_parting : (site : RelaySite) (start : ℕ) (matching : Matching) {events : List PartingEvent} {past : List RelayStep} {last : RelayState} {staying : List Link}
    → compares_end matching ≡ true → IsPartingRun matching (relay_at site start) events past last staying → AnswerOwn past
own_parting site start matching compares not_begun = tt
own_parting site start matching compares (one_more events event sent past before after staying run stays step) =
    let s = goes_on_parting site start matching run in
    (own_step matching (acts_of past) staying before after event sent compares s.0.kept.holding stays step, own_parting site start matching compares run)
own_parting site start matching compares (one_dropped events event past before staying run drops) = own_parting site start matching compares run
own_parting site start matching compares (one_leaves events conn past before staying run) = own_parting site start matching compares run

pub ends_parting : (site : RelaySite) (start : ℕ) (matching : Matching) {events : List PartingEvent} {past : List RelayStep} {last : RelayState} {staying : List Link}
    → IsPartingRun matching (relay_at site start) events past last staying → MatchesEnds matching past
ends_parting site start matching {past = past} run = ends_if (compares_end matching) past (λ compares. own_parting site start matching compares run)

-- ---- whom requests go to

clash : (flag : Bool) → flag ≡ false → flag ≡ true → ⊥
clash true is asks = absurd cc
clash false is asks = absurd cc

asks-request : {relay : RelayState} {conn : ConnId} {sender : List ℕ} {request : Message} {sent : Traffic} {after : RelayState} → OnRequest relay conn sender request sent after → AsksAmong relay.node.peers.links sent
asks-request {relay = relay} {request = request} (refused refusal e) =
    (λ asks. absurd (clash (refusal_of relay.node.name relay.node.realm request refusal).header.request (refusal-flag relay.node.name relay.node.realm request refusal) asks), tt)
asks-request {relay = relay} {sender = sender} {request = request} (forwarded to hop rows count e free more) =
    let way = (forwarded-by relay sender request (avps_of request.body) to e).2 in
    (λ asks. some_unless (peer_in relay.node.peers.links to) (λ none. next_hop-never relay.node to none (outgoing (Some sender) way.0) request.header.application way.3), tt)

asks-answer : (staying : List Link) {relay : RelayState} {conn : ConnId} {answer : Message} {sent : Traffic} {after : RelayState} → answer.header.request ≡ false → OnAnswer relay conn answer sent after → AsksAmong staying sent
asks-answer staying {answer = answer} flag (sent_back held origin rows e f w) = (λ asks. absurd (clash answer.header.request flag asks), tt)
asks-answer staying flag (dropped held rows e f w) = tt
asks-answer staying flag (ignored e) = tt

asks-append : (staying : List Link) (sent more : Traffic) → AsksAmong staying sent → AsksAmong staying more → AsksAmong staying (sent ++ more)
asks-append staying [] more a b = b
asks-append staying (item ∷ sent) more a b = (a.0, asks-append staying sent more a.1 b)

asks-again : {node : RelayNode} {lost : ConnId} {held : Held} {rows left : List Row} {sent : Traffic} → RequestFailover node lost held rows sent left → AsksAmong node.peers.links sent
asks-again (forgotten left from w) = tt
asks-again {node = node} {held = held} (sent_again origin to hop left from way free w) =
    (λ asks. some_unless (peer_in node.peers.links to) (λ none. next_hop-never node to none (avps_in (avps_of held.request.body)) held.request.header.application way), tt)
asks-again {node = node} {held = held} (given_up origin code left from way w) =
    (λ asks. absurd (clash (refusal_of node.name node.realm held.request (refusal_with code)).header.request (refusal-flag node.name node.realm held.request (refusal_with code)) asks), tt)

asks-failover : {node : RelayNode} {lost : ConnId} {rows left : List Row} {sent : Traffic} → Failover node lost rows sent left → AsksAmong node.peers.links sent
asks-failover (none_left rows none) = tt
asks-failover {node = node} (least_first hop held rows between left sent more at_hop least step rest) =
    asks-append node.peers.links sent more (asks-again step) (asks-failover rest)

silent : (staying : List Link) (sent : Traffic) → sent ≡ [] → AsksAmong staying sent
silent staying sent none = subst (λ (items : Traffic). AsksAmong staying items) (sym none) tt

asks-up : (staying : List Link) (before after : RelayState) (peer : NodeNo) (conn : ConnId) (sent : Traffic) (fault : Option RelayError)
    → MatchOption fault ((sent ≡ []) × (after ≡ after_up before peer conn)) (λ _. IsIdle before sent after) → AsksAmong staying sent
asks-up staying before after peer conn sent None step = silent staying sent step.0
asks-up staying before after peer conn sent (Some fault) step = silent staying sent step.0

asks-message : (staying : List Link) (before after : RelayState) (conn : ConnId) (sender : List ℕ) (message : Message) (sent : Traffic) (flag : Bool) → message.header.request ≡ flag
    → MatchBool flag (OnRequestAmong staying before conn sender message sent after) (OnAnswer before conn message sent after) → AsksAmong staying sent
asks-message staying before after conn sender message sent true is step = asks-request step.does
asks-message staying before after conn sender message sent false is step = asks-answer staying is step

asks-received : (staying : List Link) (before after : RelayState) (conn : ConnId) (message : Message) (sent : Traffic) (peer : Option LinkedPeer)
    → MatchOption peer (IsIdle before sent after) (λ sender. OnMessageAmong staying before conn sender.name message sent after) → AsksAmong staying sent
asks-received staying before after conn message sent None step = silent staying sent step.0
asks-received staying before after conn message sent (Some sender) step = asks-message staying before after conn sender.name message sent message.header.request refl step

asks-lost : (staying : List Link) (before after : RelayState) (conn : ConnId) (sent : Traffic) (peer : Option NodeNo)
    → MatchOption peer (IsIdle before sent after) (λ _. OnConnLostAmong staying before conn sent after) → AsksAmong (staying_lost peer staying conn) sent
asks-lost staying before after conn sent None step = silent staying sent step.0
asks-lost staying before after conn sent (Some peer) step = asks-failover step.failover

pub asks-event : (staying : List Link) (before : RelayState) (event : RelayEvent) (sent : Traffic) (after : RelayState) → OnEventAmong staying before event sent after
    → AsksAmong (staying_after before event staying) sent
asks-event staying before (Up peer conn) sent after step = asks-up (staying_up (up_fault before peer conn) staying peer conn) before after peer conn sent (up_fault before peer conn) step
asks-event staying before (Received conn message) sent after step = asks-received staying before after conn message sent (peer_on before.node conn) step
asks-event staying before (Lost conn) sent after step = asks-lost staying before after conn sent (peer_in before.node.peers.links conn) step
asks-event staying before Restart sent after step = silent [] sent step.0

-- ---- who leaves stays away

away-up : (staying : List Link) (peer : NodeNo) (on conn : ConnId) (fault : Option RelayError) → peer_in staying conn ≡ None → (on.0 == conn.0) ≡ false
    → peer_in (staying_up fault staying peer on) conn ≡ None
away-up staying peer on conn (Some fault) none other = none
away-up staying peer on conn None none other = within-alone staying peer on conn none other

away-lost : (staying : List Link) (lost conn : ConnId) (peer : Option NodeNo) → peer_in staying conn ≡ None → peer_in (staying_lost peer staying lost) conn ≡ None
away-lost staying lost conn None none = none
away-lost staying lost conn (Some peer) none = fewer (λ link. not (is_on lost link)) staying conn none

pub stays_away : (staying : List Link) (relay : RelayState) (event : RelayEvent) (conn : ConnId) → peer_in staying conn ≡ None → ((p : NodeNo) → event ≡ Up p conn → ⊥)
    → peer_in (staying_after relay event staying) conn ≡ None
stays_away staying relay (Up peer on) conn none other = away-up staying peer on conn (up_fault relay peer on) none (other_conn peer on conn (other peer))
stays_away staying relay (Received on message) conn none other = none
stays_away staying relay (Lost lost) conn none other = away-lost staying lost conn (peer_in relay.node.peers.links lost) none
stays_away staying relay Restart conn none other = refl

-- ---- answers

answer_same : (staying : List Link) (before after : RelayState) (conn : ConnId) (sender : List ℕ) (message : Message) (sent : Traffic) (flag : Bool) → flag ≡ false
    → MatchBool flag (OnRequestAmong staying before conn sender message sent after) (OnAnswer before conn message sent after)
    ↔ MatchBool flag (OnRequest before conn sender message sent after) (OnAnswer before conn message sent after)
answer_same staying before after conn sender message sent true is = absurd cc
answer_same staying before after conn sender message sent false is = (λ step. step, λ step. step)

received_same : (staying : List Link) (before after : RelayState) (conn : ConnId) (message : Message) (sent : Traffic) (peer : Option LinkedPeer) → message.header.request ≡ false
    → MatchOption peer (IsIdle before sent after) (λ sender. OnMessageAmong staying before conn sender.name message sent after)
    ↔ MatchOption peer (IsIdle before sent after) (λ sender. OnMessage before conn sender.name message sent after)
received_same staying before after conn message sent None flag = (λ step. step, λ step. step)
received_same staying before after conn message sent (Some sender) flag = answer_same staying before after conn sender.name message sent message.header.request flag

pub answers_alike : (staying : List Link) (relay : RelayState) (conn : ConnId) (message : Message) (sent : Traffic) (next : RelayState) → message.header.request ≡ false
    → OnEventAmong staying relay (Received conn message) sent next ↔ OnEvent relay (Received conn message) sent next
answers_alike staying relay conn message sent next flag = received_same staying relay next conn message sent (peer_on relay.node conn) flag
