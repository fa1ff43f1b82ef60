-- A relay keeps its promise at each event.
use Rattle.std.proofs.Common.{◌≡◌, ℕ, ◌+◌, ◌≤◌, ◌==◌, ◌&&◌, ◌||◌, not, ◌⊎◌, inl, inr, Bool, true, false, cond, is_some, MatchBool, ◌<◌, ◌^◌, length, length-append, nat_lt, List, [], ◌∷◌, ◌++◌, Option, Some, None, Ok, refl, ap, sym, subst, ◌∙◌, arith}
use Rattle.std.specs.List.{count_by}
use Rattle.std.proofs.lemmas.Bool.{ltb-false}
use Rattle.dia_base.specs.declared.number.ConnId.{ConnId}
use Rattle.dia_message.specs.declared.message.Message.{Message}
use Rattle.dia_message.specs.Traffic.{Traffic}
use Rattle.cc_view.specs.Answer.{refusal_of}
use Rattle.cc_view.specs.Refusal.{avps_of, refusal_with}
use Rattle.cc_view.specs.declared.refusal.Refusal.{Refusal}
use Rattle.relay_hops.specs.declared.row.Held.{Held}
use Rattle.relay_hops.specs.declared.row.Origin.{Origin}
use Rattle.relay_hops.specs.declared.row.Row.{Row}
use Rattle.relay_hops.specs.PendingTable.{IsWith, has_key, held_at, under, again, resent}
use Rattle.relay_hops.proofs.InUse.{its_hop}
use Rattle.relay_hops.proofs.LookUps.{moved-rest}
use Rattle.relay_hops.proofs.InUse.{held-without}
use Rattle.relay_peers.specs.PeerTable.{peer_in}
use Rattle.relay_core.specs.declared.node.RelayNode.{RelayNode}
use Rattle.relay_core.specs.declared.run.RelayEvent.TheVariants.{Received}
use Rattle.relay_core.specs.Acts.{Act, happened, sent, acts_with, is_under, is_in_use, before_event, last_sent, one}
use Rattle.relay_core.specs.Failover.{RequestFailover, forgotten, sent_again, given_up, Failover, none_left, least_first, avps_in}
use Rattle.relay_core.specs.Forwarding.{recorded, is_too_long, with_record, Descends, renumbered, recorded_by}
use Rattle.relay_routes.specs.Routing.{record_of}
use Rattle.dia_base.specs.Limits.{message_limit}
use Rattle.dia_avp.specs.AvpList.{HasSpelling, length_of, padding_of, with_padding, written}
use Rattle.dia_avp.proofs.ReadBack.{length_spelling}
use Rattle.relay_core.specs.Promise.{HasCome, HasEnded, RequestCause, AnswerCause, AreRightActs, comes_from, is_from}
use Rattle.relay_core.specs.RelayState.{RelayState}
use Rattle.relay_core.specs.RelayStep.{OnRequest, OnAnswer, refused, forwarded, sent_back, dropped, ignored, row_of, held_for}
use Rattle.relay_core.proofs.Holding.{Holding, Counted, come_more, cause_of, count-with, last_is_sent, holding-event, holding-answer, holding-less, holding-more, counted-event, counted-request, counted-same, counted-answer}
use Rattle.relay_core.proofs.Reaching.{next_hop-never}
use Rattle.relay_core.proofs.Rules.{forwarded-by}
use Rattle.relay_core.proofs.Unanswered.{OfPending, AreLinked, Within, IsWaiting, WasWaiting, same_conn, waiting-failover_one, waiting-elsewhere, was_in_use}

-- what is so of a run up to here
pub record Kept (name realm : List ℕ) (acts : List Act) (rows : List Row) : Type 0 where
  pub holding : Holding acts rows
  pub counted : Counted acts rows
  pub right : AreRightActs name realm acts

free_is_unused : (b : Bool) (o : Option Held) → (b ≡ true → is_some o ≡ true) → o ≡ None → b ≡ false
free_is_unused false o f e = refl
free_is_unused true o f e = absurd (let some = f refl in let none = ap is_some e in cc)

at_true : (b : Bool) (P Q : Type 0) → b ≡ true → P → MatchBool b P Q
at_true true P Q e p = p
at_true false P Q e p = absurd cc

at_false : (b : Bool) (P Q : Type 0) → b ≡ false → Q → MatchBool b P Q
at_false true P Q e q = absurd cc
at_false false P Q e q = q

pub refusal-flag : (name realm : List ℕ) (request : Message) (refusal : Refusal) → (refusal_of name realm request refusal).header.request ≡ false
unfolding refusal_of
refusal-flag name realm request refusal = refl

pub refusal-hop : (name realm : List ℕ) (request : Message) (refusal : Refusal) → (refusal_of name realm request refusal).header.hop ≡ request.header.hop
unfolding refusal_of
refusal-hop name realm request refusal = refl

-- ---- a request comes

short : (record_len whole body : ℕ) → nat_lt message_limit (20 + whole) ≡ false → whole ≡ body + record_len → record_len < 2 ^ 24
short record_len whole body e f = let le : 20 + whole ≤ 262144 = ltb-false 262144 (20 + whole) e in omega arith

below : (len whole pad : ℕ) → whole ≡ len + pad → whole < 2 ^ 24 → len < 2 ^ 24
below len whole pad f lt = omega arith

record_spelled : (sender body : List ℕ) → is_too_long (recorded sender body) ≡ false → HasSpelling (record_of sender)
record_spelled sender body e =
    let whole = length-append (with_padding body) (written (record_of sender)) in
    let small = short (length (written (record_of sender))) (length (recorded sender body)) (length (with_padding body)) e whole in
    record {
      code = omega arith;
      vendor = omega arith;
      no_vendor = λ _. refl;
      long = below (length_of (record_of sender)) (length (written (record_of sender))) (padding_of (length_of (record_of sender))) (length_spelling (record_of sender)) small;
    }

counted-came : (conn to : ConnId) (request message : Message) (row : Row) (acts : List Act) (rows new : List Row) → request.header.request ≡ true → message.header.request ≡ true
    → row.held.origin ≡ Some (record { conn = conn; hop = request.header.hop }) → IsWith row rows new → Counted acts rows → Counted (sent to message ∷ happened (Received conn request) ∷ acts) new
counted-came conn to request message row acts rows new flag its from w c other hop =
    let le = c other hop in
    let whole = count-with (is_from other hop) row rows new w in
    let one_row : one (is_from other hop row) ≡ one (is_under other hop conn request) = ap (λ (o : Option Origin). one (comes_from other hop o)) from in
    let asked = ap (λ (b : Bool). one (b && is_under other hop conn request)) flag in
    let none = ap (λ (b : Bool). one (not b && is_under other hop to message)) its in
    omega arith

counted-refused : (conn : ConnId) (request answer : Message) (acts : List Act) (rows : List Row) → request.header.request ≡ true → answer.header.request ≡ false → answer.header.hop ≡ request.header.hop
    → Counted acts rows → Counted (sent conn answer ∷ happened (Received conn request) ∷ acts) rows
counted-refused conn request answer acts rows flag its same c other hop =
    let le = c other hop in
    let asked = ap (λ (b : Bool). one (b && is_under other hop conn request)) flag in
    let told = ap (λ (b : Bool). one (not b && is_under other hop conn answer)) its in
    let under_it = ap (λ (n : ℕ). one ((conn.0 == other.0) && (n == hop))) same in
    omega arith

pub kept-request : (name realm : List ℕ) (relay next : RelayState) (conn : ConnId) (sender : List ℕ) (request : Message) (items : Traffic) (acts : List Act)
    → relay.node.name ≡ name → relay.node.realm ≡ realm → request.header.request ≡ true → OnRequest relay conn sender request items next
    → Kept name realm acts relay.pending.rows → Kept name realm (acts_with items (happened (Received conn request) ∷ acts)) next.pending.rows
kept-request name realm relay next conn sender request items acts n r flag step k = kept n r step
  where
    came : HasCome (happened (Received conn request) ∷ acts) conn request
    came = record { among = inl refl; flag = flag }

    kept : relay.node.name ≡ name → relay.node.realm ≡ realm → {out : Traffic} {after : RelayState} → OnRequest relay conn sender request out after
        → Kept name realm (acts_with out (happened (Received conn request) ∷ acts)) after.pending.rows
    kept n r (refused refusal e) =
        let answer = refusal_of relay.node.name relay.node.realm request refusal in
        let its = refusal-flag relay.node.name relay.node.realm request refusal in
        record {
          holding = holding-answer conn answer (happened (Received conn request) ∷ acts) relay.pending.rows its (holding-event (Received conn request) acts relay.pending.rows k.holding);
          counted = counted-refused conn request answer acts relay.pending.rows flag its (refusal-hop relay.node.name relay.node.realm request refusal) k.counted;
          right = (
            at_false answer.header.request (RequestCause (happened (Received conn request) ∷ acts) conn answer × (is_in_use conn answer.header.hop (happened (Received conn request) ∷ acts) ≡ false)) (AnswerCause name realm (happened (Received conn request) ∷ acts) conn answer) its
                (AnswerCause.refused request refusal acts refl flag
                (ap (λ (h : List ℕ). refusal_of h relay.node.realm request refusal) n ∙ ap (λ (h : List ℕ). refusal_of name h request refusal) r)),
            (tt, k.right),
          );
        }
    kept n r (forwarded to hop rows count e free w) =
        let message = under hop (with_record sender request) in
        let row = row_of to (held_for conn request message) in
        let before = happened (Received conn request) ∷ acts in
        let holding = holding-event (Received conn request) acts relay.pending.rows k.holding in
        let descends : Descends request message = renumbered hop (recorded_by sender (record_spelled sender request.body (forwarded-by relay sender request (avps_of request.body) to e).1) Descends.same) in
        record {
          holding = holding-more row relay.pending.rows rows before w free
              (record { conn = conn; request = request; came = come_more (sent to message) before conn request came; descends = descends; flag = flag; last = last_is_sent to message before flag; origin = inr refl })
              holding;
          counted = counted-came conn to request message row acts relay.pending.rows rows flag flag refl w k.counted;
          right = (
            at_true message.header.request (RequestCause before to message × (is_in_use to hop before ≡ false)) (AnswerCause name realm before to message) flag (
              RequestCause.forwarded conn request acts refl flag descends refl,
              free_is_unused (is_in_use to hop before) (held_at relay.pending.rows to hop) (holding.used to hop) free,
            ),
            (tt, k.right),
          );
        }

-- ---- an answer comes

not_ended : (flag under_it rest : Bool) → flag ≡ false → (not (not flag && under_it) && rest) ≡ true → (under_it ≡ false) × (rest ≡ true)
not_ended true under_it rest e f = absurd cc
not_ended false true rest e f = absurd cc
not_ended false false rest e f = (refl, f)

some_origin : (o : Option Origin) (origin its : Origin) → o ≡ Some origin → (o ≡ None) ⊎ (o ≡ Some its) → origin ≡ its
some_origin o origin its e (inl none) = absurd cc
some_origin o origin its e (inr same) = cc

count-gone : (row : Row) (others rows : List Row) → IsWith row others rows → (to : ConnId) (hop : ℕ) → count_by (is_from to hop) others ≤ count_by (is_from to hop) rows
count-gone row others rows w to hop = let whole = count-with (is_from to hop) row others rows w in omega arith

-- the row of an answer is taken out
answered : (relay : List Row) (conn : ConnId) (answer : Message) (held : Held) (rows : List Row) (acts : List Act) → answer.header.request ≡ false → held_at relay conn answer.header.hop ≡ Some held
    → IsWith (row_of conn held) rows relay → Holding acts relay → Holding (happened (Received conn answer) ∷ acts) rows
answered relay conn answer held rows acts flag at_hop w h =
    let its = its_hop relay conn answer.header.hop held at_hop in
    holding-less (row_of conn held) rows relay (happened (Received conn answer) ∷ acts) w
    (λ to hop e. ap (λ (n : ℕ). (conn.0 == to.0) && (n == hop)) its ∙ (not_ended answer.header.request (is_under to hop conn answer) (is_in_use to hop acts) flag e).0)
    (holding-event (Received conn answer) acts relay h)

pub kept-answer : (name realm : List ℕ) (relay next : RelayState) (conn : ConnId) (answer : Message) (items : Traffic) (acts : List Act)
    → answer.header.request ≡ false → OnAnswer relay conn answer items next → OfPending (IsWaiting relay.node acts) relay.pending.rows
    → Kept name realm acts relay.pending.rows → Kept name realm (acts_with items (happened (Received conn answer) ∷ acts)) next.pending.rows
kept-answer name realm relay next conn answer items acts flag step waits k = kept step
  where
    kept : {out : Traffic} {after : RelayState} → OnAnswer relay conn answer out after → Kept name realm (acts_with out (happened (Received conn answer) ∷ acts)) after.pending.rows
    kept (sent_back held origin rows at_hop from w) =
        let before = happened (Received conn answer) ∷ acts in
        let cause = cause_of acts (row_of conn held) rows relay.pending.rows k.holding w in
        let same = some_origin held.origin origin (record { conn = cause.conn; hop = cause.request.header.hop }) from cause.origin in
        let its = its_hop relay.pending.rows conn answer.header.hop held at_hop in
        record {
          holding = holding-answer origin.conn (under origin.hop answer) before rows flag (answered relay.pending.rows conn answer held rows acts flag at_hop w k.holding);
          counted = counted-answer origin.conn (under origin.hop answer) (row_of conn held) rows relay.pending.rows before flag from w (counted-event (Received conn answer) acts relay.pending.rows k.counted);
          right = (
            at_false answer.header.request (RequestCause before origin.conn (under origin.hop answer) × (is_in_use origin.conn origin.hop before ≡ false)) (AnswerCause name realm before origin.conn (under origin.hop answer)) flag
                (subst (λ (o : Origin). AnswerCause name realm before o.conn (under o.hop answer)) (sym same)
                (AnswerCause.sent_back conn answer cause.request held.request acts refl cause.came (sym (ap (λ (h : ℕ). last_sent conn h acts) its) ∙ cause.last)
                (waits conn answer.header.hop (ap is_some at_hop)).in_use cause.descends refl)),
            (tt, k.right),
          );
        }
    kept (dropped held rows at_hop from w) = record {
      holding = answered relay.pending.rows conn answer held rows acts flag at_hop w k.holding;
      counted = counted-same (happened (Received conn answer) ∷ acts) relay.pending.rows rows (count-gone (row_of conn held) rows relay.pending.rows w) (counted-event (Received conn answer) acts relay.pending.rows k.counted);
      right = (tt, k.right);
    }
    kept (ignored none) = record {
      holding = holding-event (Received conn answer) acts relay.pending.rows k.holding;
      counted = counted-event (Received conn answer) acts relay.pending.rows k.counted;
      right = (tt, k.right);
    }

-- ---- a connection is lost

abbrev pub IsUnused : List Act → ConnId → Type 0
IsUnused acts lost = (hop : ℕ) → is_in_use lost hop acts ≡ false

elsewhere : (lost to : ConnId) (hop its : ℕ) (acts : List Act) → IsUnused acts lost → is_in_use to hop acts ≡ true → ((lost.0 == to.0) && (its == hop)) ≡ false
elsewhere lost to hop its acts unused e = here (lost.0 == to.0) refl
  where
    here : (b : Bool) → (lost.0 == to.0) ≡ b → (b && (its == hop)) ≡ false
    here false f = refl
    here true f = absurd (let used = sym (ap (λ (conn : ConnId). is_in_use conn hop acts) (same_conn lost to f)) ∙ unused hop in cc)

other_conn : (a b : ConnId) → (a ≡ b → ⊥) → (a.0 == b.0) ≡ false
other_conn a b ne = here (a.0 == b.0) refl
  where
    here : (c : Bool) → (a.0 == b.0) ≡ c → (a.0 == b.0) ≡ false
    here false f = f
    here true f = absurd (ne (same_conn a b f))

unused-answer : (flag b rest : Bool) → flag ≡ false → rest ≡ false → ((flag && b) || rest) ≡ false
unused-answer true b rest e f = absurd cc
unused-answer false b rest e f = f

unused-other : (flag conn hop rest : Bool) → conn ≡ false → rest ≡ false → ((flag && (conn && hop)) || rest) ≡ false
unused-other flag true hop rest e f = absurd cc
unused-other true false hop rest e f = f
unused-other false false hop rest e f = f

pub kept-failover_one : (name realm : List ℕ) (node : RelayNode) (lost : ConnId) (held : Held) (rows left : List Row) (items : Traffic) (acts : List Act) → node.name ≡ name → node.realm ≡ realm
    → peer_in node.peers.links lost ≡ None → RequestFailover node lost held rows items left → is_in_use lost held.request.header.hop (before_event acts) ≡ true
    → Kept name realm acts rows → IsUnused acts lost → HasEnded acts lost → Kept name realm (acts_with items acts) left × IsUnused (acts_with items acts) lost × HasEnded (acts_with items acts) lost
kept-failover_one name realm node lost held rows left items acts n r down step until k unused now = kept step
  where
    less : (others : List Row) → IsWith (row_of lost held) others rows → Holding acts others
    less others w = holding-less (row_of lost held) others rows acts w (λ to hop e. elsewhere lost to hop held.request.header.hop acts unused e) k.holding

    kept : {out : Traffic} {after : List Row} → RequestFailover node lost held rows out after → Kept name realm (acts_with out acts) after × IsUnused (acts_with out acts) lost × HasEnded (acts_with out acts) lost
    kept (forgotten after from w) = (
      record { holding = less after w; counted = counted-same acts rows after (count-gone (row_of lost held) after rows w) k.counted; right = k.right },
      unused,
      now,
    )
    kept (sent_again origin to hop after from way free w) =
        let parts = moved-rest (row_of lost held) (resent to hop (row_of lost held)) rows after w in
        let cause = cause_of acts (row_of lost held) parts.0 rows k.holding parts.1 in
        let message = again hop held.request in
        let row : Row = resent to hop (row_of lost held) in
        let apart : to ≡ lost → ⊥ = λ same. next_hop-never node lost down (avps_in (avps_of held.request.body)) held.request.header.application (way ∙ ap (λ (conn : ConnId). Ok conn) same) in
        let descends : Descends cause.request message = Descends.sent_again hop cause.descends in (
          record {
            holding = holding-more row parts.0 after acts parts.2 (still_free (has_key to hop (row_of lost held)) (held_at parts.0 to hop) (held_at rows to hop) (held-without (row_of lost held) parts.0 rows to hop parts.1 k.holding.map) free)
                (record { conn = cause.conn; request = cause.request; came = come_more (sent to message) acts cause.conn cause.request cause.came; descends = descends; flag = cause.flag; last = last_is_sent to message acts cause.flag; origin = cause.origin })
                (less parts.0 parts.1);
            counted = counted-request to message acts after cause.flag (counted-same acts rows after (same_count parts.0 after parts.1 parts.2) k.counted);
            right = (
              at_true message.header.request (RequestCause acts to message × (is_in_use to hop acts ≡ false)) (AnswerCause name realm acts to message) cause.flag (
                RequestCause.sent_again cause.conn lost cause.request held.request now (other_conn to lost apart) cause.came cause.last until refl descends refl,
                free_is_unused (is_in_use to hop acts) (held_at rows to hop) (k.holding.used to hop) free,
              ),
              k.right,
            );
          },
          λ other. unused-other message.header.request (to.0 == lost.0) (hop == other) (is_in_use lost other acts) (other_conn to lost apart) (unused other),
          now,
        )
      where
        still_free : (key : Bool) (rest whole : Option Held) → rest ≡ cond key None whole → whole ≡ None → rest ≡ None
        still_free true rest whole e f = e
        still_free false rest whole e f = e ∙ f

        same_count : (rest after : List Row) → IsWith (row_of lost held) rest rows → IsWith (resent to hop (row_of lost held)) rest after → (conn : ConnId) (h : ℕ) → count_by (is_from conn h) after ≤ count_by (is_from conn h) rows
        same_count rest after one_less one_more conn h =
            let old = count-with (is_from conn h) (row_of lost held) rest rows one_less in
            let new = count-with (is_from conn h) (resent to hop (row_of lost held)) rest after one_more in
            omega arith
    kept (given_up origin code after from way w) =
        let cause = cause_of acts (row_of lost held) after rows k.holding w in
        let same = some_origin held.origin origin (record { conn = cause.conn; hop = cause.request.header.hop }) from cause.origin in
        let answer = under origin.hop (refusal_of node.name node.realm held.request (refusal_with code)) in
        let its = refusal-flag node.name node.realm held.request (refusal_with code) in (
          record {
            holding = holding-answer origin.conn answer acts after its (less after w);
            counted = counted-answer origin.conn answer (row_of lost held) after rows acts its from w k.counted;
            right = (
              at_false answer.header.request (RequestCause acts origin.conn answer × (is_in_use origin.conn origin.hop acts ≡ false)) (AnswerCause name realm acts origin.conn answer) its
                  (subst (λ (o : Origin). AnswerCause name realm acts o.conn (under o.hop (refusal_of node.name node.realm held.request (refusal_with code)))) (sym same)
                  (AnswerCause.given_up lost cause.request held.request code now cause.came cause.last until cause.descends
                  (ap (λ (h : List ℕ). under cause.request.header.hop (refusal_of h node.realm held.request (refusal_with code))) n ∙ ap (λ (h : List ℕ). under cause.request.header.hop (refusal_of name h held.request (refusal_with code))) r))),
              k.right,
            );
          },
          λ other. unused-answer answer.header.request (is_under lost other origin.conn answer) (is_in_use lost other acts) its (unused other),
          now,
        )

pub acts_with-more : (items more : Traffic) (acts : List Act) → acts_with (items ++ more) acts ≡ acts_with more (acts_with items acts)
acts_with-more [] more acts = refl
acts_with-more (item ∷ items) more acts = acts_with-more items more (sent item.0 item.1 ∷ acts)

-- The requests are routed by a node with no more connections.
pub kept-failover : (name realm : List ℕ) (routing node : RelayNode) (lost : ConnId) {rows left : List Row} {items : Traffic} (acts : List Act) → routing.name ≡ name → routing.realm ≡ realm
    → Within node routing → peer_in node.peers.links lost ≡ None → AreLinked node → Failover routing lost rows items left → OfPending (WasWaiting node lost acts) rows
    → Kept name realm acts rows → IsUnused acts lost → HasEnded acts lost → Kept name realm (acts_with items acts) left × OfPending (IsWaiting node (acts_with items acts)) left
kept-failover name realm routing node lost acts n r within down linked (none_left rows none) waits k unused now = (k, waiting-elsewhere node lost rows acts none waits)
kept-failover name realm routing node lost acts n r within down linked (least_first hop held rows between left items more at_hop least step rest) waits k unused now =
    let one_done = kept-failover_one name realm routing lost held rows between items acts n r (within lost down) step (was_in_use node lost hop held rows acts at_hop waits) k unused now in
    let wait = waiting-failover_one routing node lost held rows between items acts within linked down step k.holding one_done.0.holding.map waits in
    subst (λ (all : List Act). Kept name realm all left × OfPending (IsWaiting node all) left) (sym (acts_with-more items more acts))
    (kept-failover name realm routing node lost (acts_with items acts) n r within down linked rest wait one_done.0 one_done.1 one_done.2)
