-- A relay that compares End-to-End Identifiers, or does not, event by event.
use Rattle.std.proofs.Common.{◌≡◌, ℕ, ◌+◌, ◌<◌, ◌≤◌, ◌==◌, ◌&&◌, not, inl, inr, Bool, true, false, MatchBool, MatchOption, is_some, List, [], ◌∷◌, ◌++◌, Option, Some, None, length, take, get_or, refl, ap, sym, subst, ◌∙◌}
use Rattle.std.proofs.lemmas.Bool.{eqb-true}
use Rattle.std.proofs.lemmas.List.{take_more, take_all}
use Rattle.dia_base.specs.declared.number.ConnId.{ConnId}
use Rattle.dia_message.specs.declared.message.Message.{Message}
use Rattle.dia_message.specs.declared.message.Out.{Out}
use Rattle.dia_message.specs.Traffic.{Traffic}
use Rattle.relay_hops.specs.declared.row.Held.{Held}
use Rattle.relay_hops.specs.declared.row.Origin.{Origin}
use Rattle.relay_hops.specs.PendingTable.{held_at, under}
use Rattle.relay_hops.proofs.InUse.{its_hop}
use Rattle.relay_peers.specs.declared.peers.Link.{Link}
use Rattle.relay_peers.specs.declared.peers.LinkedPeer.{LinkedPeer}
use Rattle.relay_core.specs.declared.node.RelaySite.{RelaySite}
use Rattle.relay_core.specs.declared.matching.Matching.{Matching}
use Rattle.relay_core.specs.declared.matching.Matching.TheVariants.{HopByHop}
use Rattle.relay_core.specs.declared.run.RelayEvent.{RelayEvent}
use Rattle.relay_core.specs.declared.run.RelayEvent.TheVariants.{Up, Received, Lost, Restart}
use Rattle.relay_core.specs.Acts.{Act, acts_of, last_sent}
use Rattle.relay_core.specs.Connecting.{relay_at}
use Rattle.relay_core.specs.Giving.{GivesAt, GiveInTurn}
use Rattle.relay_core.specs.MatchedRun.{AnswersItsOwn, AnswersOwn, AnswerOwn, IsMatchedRun, MatchesEnds, not_begun, one_more, one_dropped}
use Rattle.relay_core.specs.AnswerMatching.{OnMatchedEvent, compares_end, drops_at, has_other_end, is_dropped, is_mismatched}
use Rattle.relay_core.specs.Promise.{HasCome}
use Rattle.relay_core.specs.RelayRun.{IsIdle, IsRun, OnEvent, RelayStep}
use Rattle.relay_core.specs.RelayRun as plain
use Rattle.relay_core.specs.RelayState.{RelayState, peer_on}
use Rattle.relay_core.specs.RelayStep.{OnAnswer, sent_back, dropped, ignored, row_of}
use Rattle.relay_core.specs.Staying.{OnEventAmong, OnMessageAmong, OnRequestAmong}
use Rattle.relay_core.proofs.Among.{event-among}
use Rattle.relay_core.proofs.Descending.{same_end}
use Rattle.relay_core.proofs.Holding.{Holding, RowCause, cause_of}
use Rattle.relay_core.proofs.Keeping.{goes_on}

-- ---- runs

-- the events at which it drops nothing are a run of every relay
pub as_taken : (matching : Matching) (first : RelayState) {events : List RelayEvent} {outs : List Out} {past : List RelayStep} {last : RelayState}
    → IsMatchedRun matching first events outs past last → (taken : List RelayEvent) × (told : List Out) × IsRun first taken told past last
as_taken matching first not_begun = ([], [], plain.not_begun)
as_taken matching first (one_more events event outs out past before after run stays step) =
    let t = as_taken matching first run in
    (t.0 ++ event ∷ [], t.1 ++ out ∷ [], plain.one_more t.0 event t.1 out past before after t.2 step)
as_taken matching first (one_dropped events event outs out past before run drops silent) = as_taken matching first run

never_drops : (relay : RelayState) (event : RelayEvent) → drops_at HopByHop relay event ≡ false
never_drops relay (Up peer conn) = refl
never_drops relay (Received conn message) = refl
never_drops relay (Lost conn) = refl
never_drops relay Restart = refl

-- one that compares no End-to-End Identifiers drops nothing
pub all_taken : (first : RelayState) {events : List RelayEvent} {outs : List Out} {past : List RelayStep} {last : RelayState}
    → IsMatchedRun HopByHop first events outs past last → IsRun first events outs past last
all_taken first not_begun = plain.not_begun
all_taken first (one_more events event outs out past before after run stays step) = plain.one_more events event outs out past before after (all_taken first run) step
all_taken first (one_dropped events event outs out past before run drops silent) =
    absurd (let never : drops_at HopByHop before event ≡ false = never_drops before event in cc)

pub as_matched : (first : RelayState) {events : List RelayEvent} {outs : List Out} {past : List RelayStep} {last : RelayState}
    → IsRun first events outs past last → IsMatchedRun HopByHop first events outs past last
as_matched first plain.not_begun = not_begun
as_matched first (plain.one_more events event outs out past before after run step) =
    one_more events event outs out past before after (as_matched first run) (never_drops before event) step

-- ---- answers

and_rest : (a b : Bool) → a ≡ true → (a && b) ≡ false → b ≡ false
and_rest true b e f = f
and_rest false b e f = absurd cc

not_true : (b : Bool) → not b ≡ false → b ≡ true
not_true true e = refl
not_true false e = absurd cc

no_request : (b : Bool) → b ≡ false → not b ≡ true
no_request true e = absurd cc
no_request false e = refl

at_false : (b : Bool) (P Q : Type 0) → b ≡ false → MatchBool b P Q → Q
at_false true P Q e m = absurd cc
at_false false P Q e m = m

-- an answer that is not dropped has the identifier of the request that is pending
ends_alike : (matching : Matching) (relay : RelayState) (conn : ConnId) (came : Message) (sender : LinkedPeer) (held : Held) → compares_end matching ≡ true
    → peer_on relay.node conn ≡ Some sender → came.header.request ≡ false → held_at relay.pending.rows conn came.header.hop ≡ Some held
    → is_dropped matching relay conn came ≡ false → held.request.header.end ≡ came.header.end
ends_alike matching relay conn came sender held compares up flag pending stays =
    let here = and_rest (compares_end matching) (is_some (peer_on relay.node conn) && is_mismatched relay.pending.rows conn came) compares stays in
    let there = and_rest (is_some (peer_on relay.node conn)) (is_mismatched relay.pending.rows conn came) (ap is_some up) here in
    let other = and_rest (not came.header.request) (has_other_end came.header.end (held_at relay.pending.rows conn came.header.hop)) (no_request came.header.request flag) there in
    let same : has_other_end came.header.end (Some held) ≡ false = ap (has_other_end came.header.end) (sym pending) ∙ other in
    eqb-true held.request.header.end came.header.end (not_true (held.request.header.end == came.header.end) same)

-- what is sent back
own_item : (acts : List Act) (conn to : ConnId) (came answer : Message) (held : Held) (origin : Origin) (cause : RowCause acts (row_of conn held))
    → held.request.header.hop ≡ came.header.hop → held.origin ≡ Some origin → held.request.header.end ≡ came.header.end
    → origin.conn ≡ to → under origin.hop came ≡ answer → AnswersItsOwn acts conn came to answer
own_item acts conn to came answer held origin cause hops from ends goes is =
    elim cause.origin [
      | inl none ↦ absurd (let no : Some origin ≡ None = sym from ∙ none in cc)
      | inr some ↦
          let same : Some origin ≡ Some (record { conn = cause.conn; hop = cause.request.header.hop }) = sym from ∙ some in
          let origin_is : origin ≡ record { conn = cause.conn; hop = cause.request.header.hop } = cc in
          let answer_end : came.header.end ≡ answer.header.end = ap (λ (m : Message). m.header.end) is in
          record {
            request = cause.request;
            earlier = held.request;
            asked = subst (λ (c : ConnId). HasCome acts c cause.request) (sym (ap (λ (o : Origin). o.conn) origin_is) ∙ goes) cause.came;
            last = subst (λ (h : ℕ). last_sent conn h acts ≡ Some held.request) hops cause.last;
            descends = cause.descends;
            same = sym is ∙ ap (λ (o : Origin). under o.hop came) origin_is;
            end = ends ∙ answer_end;
            end_asked = sym (same_end cause.request held.request cause.descends) ∙ (ends ∙ answer_end);
          }
    ]

first_conn : (a b : ConnId) (m n : Message) (rest more : Traffic) → ((a, m) ∷ rest) ≡ ((b, n) ∷ more) → a ≡ b
first_conn a b m n rest more e = ap (λ (items : Traffic). conn_of a items) e
  where
    conn_of : ConnId → Traffic → ConnId
    conn_of c [] = c
    conn_of c (item ∷ items) = item.0

first_message : (a b : ConnId) (m n : Message) (rest more : Traffic) → ((a, m) ∷ rest) ≡ ((b, n) ∷ more) → m ≡ n
first_message a b m n rest more e = ap (λ (items : Traffic). message_of m items) e
  where
    message_of : Message → Traffic → Message
    message_of c [] = c
    message_of c (item ∷ items) = item.1

own_answer : (acts : List Act) (relay after : RelayState) (conn to : ConnId) (came answer : Message) (rest sent : Traffic) → Holding acts relay.pending.rows
    → ((held : Held) → held_at relay.pending.rows conn came.header.hop ≡ Some held → held.request.header.end ≡ came.header.end)
    → OnAnswer relay conn came sent after → sent ≡ (to, answer) ∷ rest → AnswersItsOwn acts conn came to answer
own_answer acts relay after conn to came answer rest _ h ends (sent_back held origin rows pending from w) e =
    own_item acts conn to came answer held origin (cause_of acts (row_of conn held) rows relay.pending.rows h w)
    (its_hop relay.pending.rows conn came.header.hop held pending) from (ends held pending)
    (first_conn origin.conn to (under origin.hop came) answer [] rest e) (first_message origin.conn to (under origin.hop came) answer [] rest e)
own_answer acts relay after conn to came answer rest _ h ends (dropped held rows pending none w) e = absurd cc
own_answer acts relay after conn to came answer rest _ h ends (ignored none) e = absurd cc

own_received : (matching : Matching) (acts : List Act) (staying : List Link) (relay after : RelayState) (conn to : ConnId) (came answer : Message) (rest sent : Traffic) (peer : Option LinkedPeer)
    → peer_on relay.node conn ≡ peer → compares_end matching ≡ true → Holding acts relay.pending.rows → is_dropped matching relay conn came ≡ false
    → came.header.request ≡ false → MatchOption peer (IsIdle relay sent after) (λ sender. OnMessageAmong staying relay conn sender.name came sent after)
    → sent ≡ (to, answer) ∷ rest → AnswersItsOwn acts conn came to answer
own_received matching acts staying relay after conn to came answer rest sent None is compares h stays flag step e =
    absurd (let none : [] ≡ (to, answer) ∷ rest = sym step.0 ∙ e in cc)
own_received matching acts staying relay after conn to came answer rest sent (Some sender) is compares h stays flag step e =
    own_answer acts relay after conn to came answer rest sent h
    (λ held pending. ends_alike matching relay conn came sender held compares is flag pending stays)
    (at_false came.header.request (OnRequestAmong staying relay conn sender.name came sent after) (OnAnswer relay conn came sent after) flag step) e

pub own_step : (matching : Matching) (acts : List Act) (staying : List Link) (before after : RelayState) (event : RelayEvent) (sent : Traffic) → compares_end matching ≡ true
    → Holding acts before.pending.rows → drops_at matching before event ≡ false → OnEventAmong staying before event sent after
    → AnswersOwn acts (record { before = before; event = event; sent = sent; after = after })
own_step matching acts staying before after event sent compares h stays step conn to came answer rest is flag e =
    let taken : drops_at matching before (Received conn came) ≡ false = ap (drops_at matching before) (sym is) ∙ stays in
    own_received matching acts staying before after conn to came answer rest sent (peer_on before.node conn) refl compares h taken flag
    (subst (λ (x : RelayEvent). OnEventAmong staying before x sent after) is step) e

pub answers_own : (site : RelaySite) (start : ℕ) (matching : Matching) {events : List RelayEvent} {outs : List Out} {past : List RelayStep} {last : RelayState}
    → compares_end matching ≡ true → IsMatchedRun matching (relay_at site start) events outs past last → AnswerOwn past
answers_own site start matching compares not_begun = tt
answers_own site start matching compares (one_more events event outs out past before after run stays step) =
    let s = goes_on site start (as_taken matching (relay_at site start) run).2 in (
      own_step matching (acts_of past) before.node.peers.links before after event out.items compares s.kept.holding stays (event-among before after event out.items step),
      answers_own site start matching compares run,
    )
answers_own site start matching compares (one_dropped events event outs out past before run drops silent) = answers_own site start matching compares run

pub ends_if : (b : Bool) (past : List RelayStep) → (b ≡ true → AnswerOwn past) → MatchBool b (AnswerOwn past) (Unit {0})
ends_if true past f = f refl
ends_if false past f = tt

pub ends_matched : (site : RelaySite) (start : ℕ) (matching : Matching) {events : List RelayEvent} {outs : List Out} {past : List RelayStep} {last : RelayState}
    → IsMatchedRun matching (relay_at site start) events outs past last → MatchesEnds matching past
ends_matched site start matching {past = past} run = ends_if (compares_end matching) past (λ compares. answers_own site start matching compares run)

-- ---- event by event

-- these events have led here
abbrev pub LedBy : Matching → RelayState → List RelayEvent → List Out → RelayState → Type 0
LedBy matching first events outs last = (past : List RelayStep) × IsMatchedRun matching first events outs past last × GiveInTurn past

pub matched_begun : (matching : Matching) (first relay : RelayState) (events : List RelayEvent) (outs : List Out) → relay ≡ first → outs ≡ []
    → LedBy matching first (take 0 events) outs relay
matched_begun matching first relay events outs same e =
    ([], subst (λ (r : RelayState). IsMatchedRun matching first [] outs [] r) (sym same) (subst (λ (os : List Out). IsMatchedRun matching first [] os [] first) (sym e) not_begun), tt)

one_on : (matching : Matching) (first before after : RelayState) (events : List RelayEvent) (event : RelayEvent) (outs : List Out) (out : Out) (drops : Bool)
    → drops_at matching before event ≡ drops → LedBy matching first events outs before
    → MatchBool drops (IsIdle before out.items after) (OnEvent before event out.items after) → GivesAt event before.pending out.items after.pending
    → LedBy matching first (events ++ event ∷ []) (outs ++ out ∷ []) after
one_on matching first before after events event outs out true is run happens gives = (
  run.0,
  subst (λ (r : RelayState). IsMatchedRun matching first (events ++ event ∷ []) (outs ++ out ∷ []) run.0 r) (sym happens.1)
      (one_dropped events event outs out run.0 before run.1 is happens.0),
  run.2,
)
one_on matching first before after events event outs out false is run happens gives =
    (record { before = before; event = event; sent = out.items; after = after } ∷ run.0, one_more events event outs out run.0 before after run.1 is happens, (gives, run.2))

pub matched_more : (matching : Matching) (first before after : RelayState) (events : List RelayEvent) (event : RelayEvent) (i : ℕ) (outs new : List Out) (out : Out) → i < length events
    → event ≡ get_or events i event → LedBy matching first (take i events) outs before → OnMatchedEvent matching before event out.items after
    → GivesAt event before.pending out.items after.pending → new ≡ outs ++ out ∷ [] → LedBy matching first (take (i + 1) events) new after
matched_more matching first before after events event i outs new out lt is run happens gives e =
    subst (λ (es : List RelayEvent). LedBy matching first es new after) (sym (take_more events i event lt ∙ ap (λ (x : RelayEvent). take i events ++ x ∷ []) (sym is)))
    (subst (λ (os : List Out). LedBy matching first (take i events ++ event ∷ []) os after) (sym e)
    (one_on matching first before after (take i events) event outs out (drops_at matching before event) refl run happens gives))

pub matched_all : (matching : Matching) (first last : RelayState) (events : List RelayEvent) (i : ℕ) (outs : List Out) → length events ≤ i
    → LedBy matching first (take i events) outs last → LedBy matching first events outs last
matched_all matching first last events i outs end run =
    (run.0, subst (λ (es : List RelayEvent). IsMatchedRun matching first es outs run.0 last) (take_all i events end) run.1, run.2)
