-- A run of a relay keeps the promise.
use Rattle.std.proofs.Common.{◌≡◌, ℕ, ◌≤◌, ◌==◌, ◌&&◌, not, Bool, true, false, cond, is_some, MatchBool, MatchOption, List, [], ◌∷◌, Option, Some, None, Result, Ok, Err, refl, ap, sym, subst, ◌∙◌, arith}
use Rattle.std.specs.List.{count_by}
use Rattle.std.proofs.lemmas.Bool.{eq-eqb}
use Rattle.dia_base.specs.declared.number.ConnId.{ConnId}
use Rattle.dia_base.specs.declared.number.NodeNo.{NodeNo}
use Rattle.dia_avp.specs.declared.avp.RawAvp.{RawAvp}
use Rattle.dia_avp.specs.declared.fault.AvpFault.{AvpFault}
use Rattle.dia_avp.specs.AvpReading.{split_of}
use Rattle.dia_message.specs.declared.message.Message.{Message}
use Rattle.dia_message.specs.declared.message.Out.{Out}
use Rattle.dia_message.specs.Traffic.{Traffic}
use Rattle.cc_view.specs.Refusal.{avps_by, refusal_with}
use Rattle.cc_view.specs.declared.code.ResultCode.TheVariants.{LoopDetected}
use Rattle.cc_view.specs.declared.refusal.Refusal.{Refusal}
use Rattle.relay_routes.specs.Routing.{names_node, named_in, IsLoop}
use Rattle.relay_routes.proofs.Loops.{test-from_IsLoop}
use Rattle.relay_hops.specs.declared.row.Row.{Row}
use Rattle.relay_hops.specs.PendingTable.{PendingTable, has_key}
use Rattle.relay_peers.specs.declared.peers.Link.{Link}
use Rattle.relay_peers.specs.declared.peers.LinkedPeer.{LinkedPeer}
use Rattle.relay_peers.specs.PeerTable.{peer_in}
use Rattle.relay_core.specs.declared.error.RelayError.{RelayError}
use Rattle.relay_core.specs.declared.node.RelayNode.{RelayNode}
use Rattle.relay_core.specs.declared.node.RelaySite.{RelaySite}
use Rattle.relay_core.specs.declared.run.RelayEvent.{RelayEvent}
use Rattle.relay_core.specs.declared.run.RelayEvent.TheVariants.{Up, Received, Lost, Restart}
use Rattle.relay_core.specs.Acts.{Act, happened, acts_with, acts_of, is_in_use}
use Rattle.relay_core.specs.Connecting.{relay_at, up_fault, after_up, after_restart}
use Rattle.relay_core.specs.Failover.{after_end, without_origins}
use Rattle.relay_core.specs.Promise.{FailOverOnce, LoseNoRequests, RefusesLoop, RefusesLoops, KeepsPromise, is_from}
use Rattle.relay_core.specs.RelayRun.{IsIdle, RelayStep, IsRun, not_begun, one_more}
use Rattle.relay_core.specs.RelayState.{RelayState, peer_on}
use Rattle.relay_core.specs.RelayStep.{OnRequest, refused, forwarded, OnAnswer, refusal_to}
use Rattle.relay_core.specs.Verdict.{verdict, decision}
use Rattle.relay_core.specs.Staying.{OnConnLostAmong, OnEventAmong, OnMessageAmong, OnRequestAmong, node_among, relay_among}
use Rattle.relay_core.proofs.Among.{answer_node, event-among, within-lost}
use Rattle.relay_core.proofs.Holding.{holding-event, holding-orphans, counted-event, counted-orphans}
use Rattle.relay_core.proofs.NoneLost.{loses_none}
use Rattle.relay_core.proofs.OnceEach.{fails_over}
use Rattle.relay_core.proofs.Promising.{Kept, kept-request, kept-answer, kept-failover}
use Rattle.relay_core.proofs.Reaching.{none_on}
use Rattle.relay_core.proofs.Unanswered.{Unanswered, EndsNothing, Within, linked-lost, unanswered-event, received-idle, lost-idle, unanswered-up, unanswered-nothing, unanswered-request, unanswered-answer, waiting-lost}

-- ---- a request in which the relay finds itself

first_rule : (b : Bool) (refusal : Refusal) (rest : Result ConnId Refusal) → b ≡ true → cond b (Err refusal) rest ≡ Err refusal
first_rule true refusal rest e = refl
first_rule false refusal rest e = absurd cc

verdict-loop : (relay : RelayState) (sender : List ℕ) (request : Message) (r : Result (List RawAvp) AvpFault) → named_in relay.node.name r ≡ true
    → verdict relay sender request (avps_by request.body r) ≡ Err (refusal_with LoopDetected)
verdict-loop relay sender request (Ok avps) e = first_rule (names_node relay.node.name avps) (refusal_with LoopDetected) _ e
verdict-loop relay sender request (Err fault) e = absurd cc

refused-loop : {relay : RelayState} {conn : ConnId} {sender : List ℕ} {request : Message} {items : Traffic} {next : RelayState} → decision relay sender request ≡ Err (refusal_with LoopDetected)
    → OnRequest relay conn sender request items next → (items ≡ refusal_to relay.node conn request (refusal_with LoopDetected)) × (next ≡ relay)
refused-loop {relay = relay} {conn = conn} {request = request} d (refused refusal e) =
    let same : refusal ≡ refusal_with LoopDetected = cc in
    (ap (λ (x : Refusal). refusal_to relay.node conn request x) same, refl)
refused-loop d (forwarded to hop rows count e free more) = absurd cc

pub loop-refused : (relay : RelayState) (conn : ConnId) (sender : List ℕ) (request : Message) (items : Traffic) (next : RelayState) → IsLoop relay.node.name request.body
    → OnRequest relay conn sender request items next → (items ≡ refusal_to relay.node conn request (refusal_with LoopDetected)) × (next ≡ relay)
loop-refused relay conn sender request items next loop step =
    refused-loop (verdict-loop relay sender request (split_of request.body) (test-from_IsLoop relay.node.name request.body loop)) step

of_some : {X : Type 0} (o : Option X) (P : Type 0) (Q : X → Type 0) → is_some o ≡ true → MatchOption o P Q → (x : X) × Q x
of_some None P Q e m = absurd cc
of_some (Some x) P Q e m = (x, m)

of_true : (b : Bool) (P Q : Type 0) → b ≡ true → MatchBool b P Q → P
of_true true P Q e m = m
of_true false P Q e m = absurd cc

both_parts : (before after : RelayState) → after.node ≡ before.node → after.pending ≡ before.pending → after ≡ before
both_parts before after node pending = ap (λ (n : RelayNode). relay_of n after.pending) node ∙ ap (λ (t : PendingTable). relay_of before.node t) pending
  where
    relay_of : RelayNode → PendingTable → RelayState
    relay_of n t = record { node = n; pending = t }

loop_among : (staying : List Link) (before : RelayState) (conn : ConnId) (sender : List ℕ) (request : Message) (items : Traffic) (after : RelayState) → IsLoop before.node.name request.body
    → OnRequestAmong staying before conn sender request items after → (items ≡ refusal_to before.node conn request (refusal_with LoopDetected)) × (after ≡ before)
loop_among staying before conn sender request items after loop step =
    let refuses = loop-refused (relay_among staying before) conn sender request items (relay_among staying after) loop step.does in
    (refuses.0, both_parts before after step.up (ap (λ (s : RelayState). s.pending) refuses.1))

loop_step : (staying : List Link) (before : RelayState) (event : RelayEvent) (items : Traffic) (after : RelayState) → OnEventAmong staying before event items after
    → RefusesLoop (record { before = before; event = event; sent = items; after = after })
loop_step staying before event items after step = λ conn request is flag up loop.
    let came : OnEventAmong staying before (Received conn request) items after = subst (λ (e : RelayEvent). OnEventAmong staying before e items after) is step in
    let sender = of_some (peer_on before.node conn) (IsIdle before items after) (λ sender. OnMessageAmong staying before conn sender.name request items after) up came in
    loop_among staying before conn sender.0.name request items after loop
    (of_true request.header.request (OnRequestAmong staying before conn sender.0.name request items after) (OnAnswer before conn request items after) flag sender.1)

-- ---- an event

pub record Stands (name realm : List ℕ) (past : List RelayStep) (relay : RelayState) : Type 0 where
  pub name_is : relay.node.name ≡ name
  pub realm_is : relay.node.realm ≡ realm
  pub kept : Kept name realm (acts_of past) relay.pending.rows
  pub unanswered : Unanswered relay.node (acts_of past) relay.pending.rows
  pub failovers : FailOverOnce name realm past
  pub waits : LoseNoRequests past
  pub loops : RefusesLoops past

record After (name realm : List ℕ) (acts : List Act) (relay : RelayState) : Type 0 where
  name_is : relay.node.name ≡ name
  realm_is : relay.node.realm ≡ realm
  kept : Kept name realm acts relay.pending.rows
  unanswered : Unanswered relay.node acts relay.pending.rows

-- nothing is sent, and the pending requests stay
quiet : (name realm : List ℕ) (event : RelayEvent) (acts : List Act) (relay next after : RelayState) (items : Traffic) → items ≡ [] → after ≡ next → next.node.name ≡ name → next.node.realm ≡ realm
    → next.pending.rows ≡ relay.pending.rows → Unanswered next.node (happened event ∷ acts) next.pending.rows → Kept name realm acts relay.pending.rows → After name realm (acts_with items (happened event ∷ acts)) after
quiet name realm event acts relay next after items none is n r same u k =
    subst (λ (s : RelayState). After name realm (acts_with items (happened event ∷ acts)) s) (sym is)
    (subst (λ (xs : Traffic). After name realm (acts_with xs (happened event ∷ acts)) next) (sym none) (record {
      name_is = n;
      realm_is = r;
      kept = subst (λ (rows : List Row). Kept name realm (happened event ∷ acts) rows) (sym same) (record {
        holding = holding-event event acts relay.pending.rows k.holding;
        counted = counted-event event acts relay.pending.rows k.counted;
        right = (tt, k.right);
      });
      unanswered = u;
    }))

idle : (name realm : List ℕ) (event : RelayEvent) (acts : List Act) (relay after : RelayState) (items : Traffic) → EndsNothing relay.node event → IsIdle relay items after → relay.node.name ≡ name → relay.node.realm ≡ realm
    → Unanswered relay.node acts relay.pending.rows → Kept name realm acts relay.pending.rows → After name realm (acts_with items (happened event ∷ acts)) after
idle name realm event acts relay after items ends i n r u k = quiet name realm event acts relay relay after items i.0 i.1 n r refl (unanswered-event relay.node event acts relay.pending.rows ends u) k

up_step : (name realm : List ℕ) (peer : NodeNo) (conn : ConnId) (acts : List Act) (relay after : RelayState) (items : Traffic) (fault : Option RelayError) → up_fault relay peer conn ≡ fault
    → MatchOption fault ((items ≡ []) × (after ≡ after_up relay peer conn)) (λ _. IsIdle relay items after) → relay.node.name ≡ name → relay.node.realm ≡ realm
    → Unanswered relay.node acts relay.pending.rows → Kept name realm acts relay.pending.rows → After name realm (acts_with items (happened (Up peer conn) ∷ acts)) after
up_step name realm peer conn acts relay after items None e m n r u k = quiet name realm (Up peer conn) acts relay (after_up relay peer conn) after items m.0 m.1 n r refl (unanswered-up relay peer conn acts e u) k
up_step name realm peer conn acts relay after items (Some fault) e m n r u k = idle name realm (Up peer conn) acts relay after items (λ to hop f. absurd cc) m n r u k

message_step : (name realm : List ℕ) (acts : List Act) (staying : List Link) (relay after : RelayState) (conn : ConnId) (sender : List ℕ) (message : Message) (items : Traffic) (flag : Bool) → message.header.request ≡ flag
    → Within relay.node (node_among staying relay.node)
    → MatchBool flag (OnRequestAmong staying relay conn sender message items after) (OnAnswer relay conn message items after) → relay.node.name ≡ name → relay.node.realm ≡ realm
    → Unanswered relay.node acts relay.pending.rows → Kept name realm acts relay.pending.rows → After name realm (acts_with items (happened (Received conn message) ∷ acts)) after
message_step name realm acts staying relay after conn sender message items true is within step n r u k =
    let all = kept-request name realm (relay_among staying relay) (relay_among staying after) conn sender message items acts n r is step.does k in
    record {
      name_is = ap (λ (x : RelayNode). x.name) step.up ∙ n;
      realm_is = ap (λ (x : RelayNode). x.realm) step.up ∙ r;
      kept = all;
      unanswered = subst (λ (x : RelayNode). Unanswered x (acts_with items (happened (Received conn message) ∷ acts)) after.pending.rows) (sym step.up)
          (unanswered-request relay.node (relay_among staying relay) (relay_among staying after) conn sender message items acts is within step.does all.holding.map u);
    }
message_step name realm acts staying relay after conn sender message items false is within step n r u k = record {
  name_is = ap (λ (x : RelayNode). x.name) (answer_node step) ∙ n;
  realm_is = ap (λ (x : RelayNode). x.realm) (answer_node step) ∙ r;
  kept = kept-answer name realm relay after conn message items acts is step u.waiting k;
  unanswered = unanswered-answer relay after conn message items acts step k.holding.map u;
}

received_step : (name realm : List ℕ) (acts : List Act) (staying : List Link) (relay after : RelayState) (conn : ConnId) (message : Message) (items : Traffic) (peer : Option LinkedPeer) → peer_on relay.node conn ≡ peer
    → Within relay.node (node_among staying relay.node)
    → MatchOption peer (IsIdle relay items after) (λ sender. OnMessageAmong staying relay conn sender.name message items after) → relay.node.name ≡ name → relay.node.realm ≡ realm
    → Unanswered relay.node acts relay.pending.rows → Kept name realm acts relay.pending.rows → After name realm (acts_with items (happened (Received conn message) ∷ acts)) after
received_step name realm acts staying relay after conn message items None none within m n r u k = idle name realm (Received conn message) acts relay after items (received-idle relay.node conn message none) m n r u k
received_step name realm acts staying relay after conn message items (Some sender) is within m n r u k = message_step name realm acts staying relay after conn sender.name message items message.header.request refl within m n r u k

ended : (conn : ConnId) (rest : Bool) → (not (conn.0 == conn.0) && rest) ≡ false
ended conn rest = ap (λ (b : Bool). not b && rest) (eq-eqb conn.0 conn.0 refl)

lost_step : (name realm : List ℕ) (acts : List Act) (staying : List Link) (relay after : RelayState) (conn : ConnId) (items : Traffic) → Within relay.node (node_among staying relay.node)
    → OnConnLostAmong staying relay conn items after → relay.node.name ≡ name → relay.node.realm ≡ realm
    → Unanswered relay.node acts relay.pending.rows → Kept name realm acts relay.pending.rows → After name realm (acts_with items (happened (Lost conn) ∷ acts)) after
lost_step name realm acts staying relay after conn items within step n r u k =
    let before = happened (Lost conn) ∷ acts in
    let start : Kept name realm before (without_origins conn relay.pending.rows) = record {
      holding = holding-orphans conn before relay.pending.rows (holding-event (Lost conn) acts relay.pending.rows k.holding);
      counted = counted-orphans conn before relay.pending.rows (counted-event (Lost conn) acts relay.pending.rows k.counted);
      right = (tt, k.right);
    } in
    let linked = linked-lost relay.node conn u.linked in
    let all =
    kept-failover name realm (after_end conn (node_among staying relay.node)) (after_end conn relay.node) conn before n r (within-lost relay.node staying conn within)
    (none_on relay.node.peers.links conn) linked step.failover
    (waiting-lost relay.node conn acts relay.pending.rows u) start (λ hop. ended conn (is_in_use conn hop acts)) refl in
    subst (λ (s : RelayState). After name realm (acts_with items before) s) (sym step.after)
    (record { name_is = n; realm_is = r; kept = all.0; unanswered = record { linked = linked; waiting = all.1 } })

maybe_lost : (name realm : List ℕ) (acts : List Act) (staying : List Link) (relay after : RelayState) (conn : ConnId) (items : Traffic) (peer : Option NodeNo) → peer_in relay.node.peers.links conn ≡ peer
    → Within relay.node (node_among staying relay.node)
    → MatchOption peer (IsIdle relay items after) (λ _. OnConnLostAmong staying relay conn items after) → relay.node.name ≡ name → relay.node.realm ≡ realm
    → Unanswered relay.node acts relay.pending.rows → Kept name realm acts relay.pending.rows → After name realm (acts_with items (happened (Lost conn) ∷ acts)) after
maybe_lost name realm acts staying relay after conn items None none within m n r u k = idle name realm (Lost conn) acts relay after items (lost-idle relay.node conn none) m n r u k
maybe_lost name realm acts staying relay after conn items (Some peer) is within m n r u k = lost_step name realm acts staying relay after conn items within m n r u k

nothing_counted : (p : Row → Bool) → count_by p [] ≤ 1
nothing_counted p = let zero_rows : count_by p [] ≡ 0 = refl in omega arith

no_rows : (name realm : List ℕ) (acts : List Act) (rows : List Row) → Kept name realm acts rows → Kept name realm (happened Restart ∷ acts) []
no_rows name realm acts rows k = record {
  holding = record { map = record { single = λ conn hop. nothing_counted (has_key conn hop) }; causes = tt; used = λ to hop e. absurd cc };
  counted = λ to hop. let le = k.counted to hop in let zero_rows : count_by (is_from to hop) [] ≡ 0 = refl in omega arith;
  right = (tt, k.right);
}

restart_step : (name realm : List ℕ) (acts : List Act) (relay after : RelayState) (items : Traffic) → items ≡ [] → after ≡ after_restart relay → relay.node.name ≡ name → relay.node.realm ≡ realm
    → Kept name realm acts relay.pending.rows → After name realm (acts_with items (happened Restart ∷ acts)) after
restart_step name realm acts relay after items none is n r k =
    subst (λ (s : RelayState). After name realm (acts_with items (happened Restart ∷ acts)) s) (sym is)
    (subst (λ (xs : Traffic). After name realm (acts_with xs (happened Restart ∷ acts)) (after_restart relay)) (sym none)
    (record { name_is = n; realm_is = r; kept = no_rows name realm acts relay.pending.rows k; unanswered = unanswered-nothing (after_restart relay).node (happened Restart ∷ acts) refl }))

step_kept : (name realm : List ℕ) (staying : List Link) (event : RelayEvent) (acts : List Act) (relay after : RelayState) (items : Traffic) → Within relay.node (node_among staying relay.node)
    → OnEventAmong staying relay event items after → relay.node.name ≡ name → relay.node.realm ≡ realm
    → Unanswered relay.node acts relay.pending.rows → Kept name realm acts relay.pending.rows → After name realm (acts_with items (happened event ∷ acts)) after
step_kept name realm staying (Up peer conn) acts relay after items within step n r u k = up_step name realm peer conn acts relay after items (up_fault relay peer conn) refl step n r u k
step_kept name realm staying (Received conn message) acts relay after items within step n r u k = received_step name realm acts staying relay after conn message items (peer_on relay.node conn) refl within step n r u k
step_kept name realm staying (Lost conn) acts relay after items within step n r u k = maybe_lost name realm acts staying relay after conn items (peer_in relay.node.peers.links conn) refl within step n r u k
step_kept name realm staying Restart acts relay after items within step n r u k = restart_step name realm acts relay after items step.0 step.1 n r k

-- ---- a run

pub begins : (site : RelaySite) (start : ℕ) → Stands site.name site.realm [] (relay_at site start)
begins site start = record {
  name_is = refl;
  realm_is = refl;
  kept = record {
    holding = record { map = record { single = λ conn hop. nothing_counted (has_key conn hop) }; causes = tt; used = λ to hop e. absurd cc };
    counted = λ to hop. let zero_rows : count_by (is_from to hop) [] ≡ 0 = refl in omega arith;
    right = tt;
  };
  unanswered = unanswered-nothing (relay_at site start).node [] refl;
  failovers = tt;
  waits = tt;
  loops = tt;
}

-- one event more, where these stay
pub stands_more : (site : RelaySite) (staying : List Link) (past : List RelayStep) (before after : RelayState) (event : RelayEvent) (items : Traffic) → Within before.node (node_among staying before.node)
    → OnEventAmong staying before event items after → Stands site.name site.realm past before
    → Stands site.name site.realm (record { before = before; event = event; sent = items; after = after } ∷ past) after
stands_more site staying past before after event items within step s =
    let a = step_kept site.name site.realm staying event (acts_of past) before after items within step s.name_is s.realm_is s.unanswered s.kept in
    record {
      name_is = a.name_is;
      realm_is = a.realm_is;
      kept = a.kept;
      unanswered = a.unanswered;
      waits = (loses_none (acts_of past) staying before after event items s.kept.holding step, s.waits);
      failovers = (fails_over site.name site.realm (acts_of past) staying before after event items s.name_is s.realm_is s.kept.holding s.unanswered step, s.failovers);
      loops = (loop_step staying before event items after step, s.loops);
    }

pub goes_on : (site : RelaySite) (start : ℕ) {events : List RelayEvent} {outs : List Out} {past : List RelayStep} {last : RelayState} → IsRun (relay_at site start) events outs past last → Stands site.name site.realm past last
goes_on site start not_begun = begins site start
goes_on site start (one_more events event outs out past before after run step) =
    stands_more site before.node.peers.links past before after event out.items (λ conn none. none) (event-among before after event out.items step) (goes_on site start run)

pub promise-of : (name realm : List ℕ) (past : List RelayStep) (last : RelayState) → Stands name realm past last → KeepsPromise name realm past
promise-of name realm past last s = record {
  right = s.kept.right;
  once = λ conn hop. let le = s.kept.counted conn hop in omega arith;
  failovers = s.failovers;
  waits = s.waits;
  loops = s.loops;
}

pub promise-kept : (site : RelaySite) (start : ℕ) {events : List RelayEvent} {outs : List Out} {past : List RelayStep} {last : RelayState} → IsRun (relay_at site start) events outs past last → KeepsPromise site.name site.realm past
promise-kept site start {past = past} {last = last} run = promise-of site.name site.realm past last (goes_on site start run)
