-- Every run of a front keeps what is promised.
use Rattle.std.proofs.Common.{inl, inr, ◌≡◌, ℕ, zero, suc, ◌+◌, ◌≤◌, ◌<◌, Bool, true, false, cond, List, [], ◌∷◌, ◌++◌, length, length-append, take, get_or, Option, Some, None, refl, sym, subst, ap, ◌∙◌, append_assoc, arith}
use Rattle.std.specs.Prelude.{All, unwrap_or, ◌&&◌, ◌⊎◌, slice_get}
use Rattle.std.specs.List.{sum_by}
use Rattle.std.proofs.lemmas.Grind.{flat_map-append}
use Rattle.std.proofs.Math.Seq.{take-append_seam}
use Rattle.std.proofs.lemmas.List.{append-nil, take-append-le, take_all}
use Rattle.std.proofs.lemmas.List.Elements.{Contains-push, All-nil, All-replicate, All-weaker, filter_map-append}
use Rattle.std.proofs.lemmas.List.Sums.{sum_by-append}
use Rattle.std.proofs.lemmas.Option.{slice_get_within, same_Some}
use Rattle.dia_base.specs.declared.number.ConnId.{ConnId}
use Rattle.dia_message.specs.declared.message.Message.{Message}
use Rattle.dia_message.specs.Traffic.{Traffic}
use Rattle.cc_book.specs.History.{IsLegal}
use Rattle.cc_book.specs.Taking.{Ledger}
use Rattle.front_core.specs.declared.event.FrontEvent.{FrontEvent}
use Rattle.front_core.specs.declared.event.FrontEvent.TheVariants.{Up, Pick, Charge, Refuse, Emit, Lost, Restart}
use Rattle.front_core.specs.declared.site.FrontSite.{FrontSite}
use Rattle.front_core.specs.declared.worker.Worker.TheVariants.{Idle}
use Rattle.front_core.specs.Counts.{is_with, requests_with, answers_with}
use Rattle.front_core.specs.FrontRun.{FrontRun, Turn, silent_turn, sending_turn, after_event, run_with, new_run, run_of}
use Rattle.front_core.specs.FrontState.{FrontState, is_among}
use Rattle.front_core.specs.FrontStep.{after_arrival, sent_at_arrival, after_pick, after_charge, after_refusal, after_emit}
use Rattle.front_core.specs.Promise.{traffic_of, message_at, all_sent, IsAsked, IsRightAnswer, GrowsByRequests, IsSentRightly, EachSent, KeepsPromise}
use Rattle.front_core.proofs.FrontKeeping.{AllUp, TurnStands, event_turn}
use Rattle.front_core.proofs.FrontRuns.{run_of-nil, run_of-push}
use Rattle.front_core.proofs.FrontTally.{one, at_front, of_items, idle-is, with_connection-is, arrival-is, pick-is, charges-is, refusal-is, emit-le, restart-is}
use Rattle.front_core.proofs.Standing.{JobStands, WorkerStands, FrontStands, Keeps, longer, fuller, FrontStands-grows, IsRightAnswer-grows, GrowsByRequests-grows, asked_now, cause_now}

-- ---- how often

module _ (conn : ConnId) (hop end : ℕ) where
  -- requests that come with an event
  abbrev asked_at : FrontEvent → ℕ
  asked_at event = requests_with (traffic_of (event ∷ [])) conn hop end

  abbrev Enough : FrontState → FrontEvent → Turn → Type 0
  Enough front event turn = at_front conn hop end turn.front + of_items conn hop end turn.sent ≤ at_front conn hop end front + asked_at event

  both_le : (a b : Bool) → cond a (one b) 0 ≤ one (a && b)
  both_le true b = omega arith
  both_le false b = omega arith

  message_le : (front : FrontState) (ledger : Ledger) (c : ConnId) (message : Message) (up : Bool)
      → Enough front (FrontEvent.Message c message) (cond up (sending_turn (after_arrival front c message, sent_at_arrival front c message) ledger) (silent_turn front ledger))
  message_le front ledger c message true =
      let came = arrival-is conn hop end front c message in
      let asked = both_le message.header.request (is_with conn hop end (c, message)) in
      omega (arith, came, asked)
  message_le front ledger c message false = omega arith

  pick_le : (front : FrontState) (worker : ℕ) (next : Option FrontState) → after_pick front worker ≡ next → at_front conn hop end (unwrap_or next front) ≡ at_front conn hop end front
  pick_le front worker None e = refl
  pick_le front worker (Some next) e = pick-is conn hop end front next worker e

  charge_le : (front : FrontState) (ledger : Ledger) (moment : _) (worker : ℕ) (turn : Option (FrontState × Ledger)) → after_charge front ledger moment worker ≡ turn → at_front conn hop end (unwrap_or turn (front, ledger)).0 ≡ at_front conn hop end front
  charge_le front ledger moment worker None e = refl
  charge_le front ledger moment worker (Some turn) e = charges-is conn hop end front ledger moment worker turn e

  refusal_le : (front : FrontState) (worker : ℕ) (next : Option FrontState) → after_refusal front worker ≡ next → at_front conn hop end (unwrap_or next front) ≡ at_front conn hop end front
  refusal_le front worker None e = refl
  refusal_le front worker (Some next) e = refusal-is conn hop end front next worker e

  emit_le : (front : FrontState) (worker : ℕ) (turn : Option (FrontState × Traffic)) → after_emit front worker ≡ turn → let left = unwrap_or turn (front, []) in at_front conn hop end left.0 + of_items conn hop end left.1 ≤ at_front conn hop end front
  emit_le front worker None e = omega arith
  emit_le front worker (Some turn) e = emit-le conn hop end front worker turn e

  event_le : (front : FrontState) (ledger : Ledger) (event : FrontEvent) → Enough front event (after_event front ledger event)
  event_le front ledger (Up c) = omega (arith, with_connection-is conn hop end front c)
  event_le front ledger (FrontEvent.Message c message) = message_le front ledger c message (is_among front.connections c)
  event_le front ledger (Pick worker) = omega (arith, pick_le front worker (after_pick front worker) refl)
  event_le front ledger (Charge worker moment) = omega (arith, charge_le front ledger moment worker (after_charge front ledger moment worker) refl)
  event_le front ledger (Refuse worker) = omega (arith, refusal_le front worker (after_refusal front worker) refl)
  event_le front ledger (Emit worker) = omega (arith, emit_le front worker (after_emit front worker) refl)
  event_le front ledger (FrontEvent.Sweep moment) = omega arith
  event_le front ledger (FrontEvent.ChangeTerms moment change) = omega arith
  event_le front ledger (Lost c) = omega arith
  event_le front ledger Restart = omega (arith, restart-is conn hop end front)

-- ---- what stands of a run

record Stands (site : FrontSite) (book : Ledger) (past : List FrontEvent) (run : FrontRun) : Type 0 where
  front : FrontStands site book past run.ledger run.front
  length_of : length run.sent ≡ length past
  sent : EachSent (IsSentRightly site book past run.ledger) run.sent
  grown : GrowsByRequests site past book run.ledger
  legal : IsLegal run.ledger.terms run.ledger.history
  not_more : (conn : ConnId) (hop end : ℕ) → at_front conn hop end run.front + answers_with (all_sent run.sent) conn hop end ≤ requests_with (traffic_of past) conn hop end

first_stands : (site : FrontSite) (book : Ledger) → IsLegal book.terms book.history → Stands site book [] (new_run site book)
first_stands site book legal = record {
  front = record { of_site = refl; waiting = All-nil (JobStands []); working = All-replicate (WorkerStands site book [] book) site.workers Idle tt };
  length_of = refl;
  sent = λ place items e. absurd cc;
  grown = record { more = []; grown = ap (λ (h : _). let same : Ledger = record book { history = h } in same) (sym (append-nil book.history)); taken = All-nil _ };
  legal = legal;
  not_more = λ conn hop end. omega (arith, idle-is conn hop end site.workers);
}

-- what was sent, with what is sent at one more event
all_sent-push : (sent : List Traffic) (more : Traffic) → all_sent (sent ++ more ∷ []) ≡ all_sent sent ++ more
all_sent-push sent more = flat_map-append (λ (items : Traffic). items) sent (more ∷ []) ∙ ap (λ (items : Traffic). all_sent sent ++ items) (append-nil more)

pushed_le : (conn : ConnId) (hop end : ℕ) (past : List FrontEvent) (event : FrontEvent) (front : FrontState) (sent : List Traffic) (turn : Turn)
    → at_front conn hop end front + answers_with (all_sent sent) conn hop end ≤ requests_with (traffic_of past) conn hop end → Enough conn hop end front event turn
    → at_front conn hop end turn.front + answers_with (all_sent (sent ++ turn.sent ∷ [])) conn hop end ≤ requests_with (traffic_of (past ++ event ∷ [])) conn hop end
pushed_le conn hop end past event front sent turn before step =
    let item = λ (i : ConnId × Message). one (is_with conn hop end i) in
    let request = λ (i : ConnId × Message). one (i.1.header.request && is_with conn hop end i) in
    let answers : answers_with (all_sent (sent ++ turn.sent ∷ [])) conn hop end ≡ answers_with (all_sent sent) conn hop end + of_items conn hop end turn.sent =
    ap (sum_by item) (all_sent-push sent turn.sent) ∙ sum_by-append item (all_sent sent) turn.sent in
    let requests : requests_with (traffic_of (past ++ event ∷ [])) conn hop end ≡ requests_with (traffic_of past) conn hop end + asked_at conn hop end event =
    ap (sum_by request) (filter_map-append message_at past (event ∷ [])) ∙ sum_by-append request (traffic_of past) (traffic_of (event ∷ [])) in
    omega (arith, before, step, answers, requests)

-- ---- what was sent at each event

-- a place of a list with one item more is one of before, or the last
slice_get-push : {A : Type 0} (xs : List A) (x : A) (i : ℕ) (y : A) → slice_get (xs ++ x ∷ []) i ≡ Some y → (slice_get xs i ≡ Some y) ⊎ ((i ≡ length xs) × (x ≡ y))
slice_get-push [] x zero y e = inr (refl, same_Some x y e)
slice_get-push [] x (suc i) y e = absurd cc
slice_get-push (z ∷ xs) x zero y e = inl e
slice_get-push (z ∷ xs) x (suc i) y e = behind (slice_get-push xs x i y e)
  where
    behind : (slice_get xs i ≡ Some y) ⊎ ((i ≡ length xs) × (x ≡ y)) → (slice_get (z ∷ xs) (suc i) ≡ Some y) ⊎ ((suc i ≡ length (z ∷ xs)) × (x ≡ y))
    behind (inl at) = inl at
    behind (inr at) = let here : i ≡ length xs = at.0 in inr (omega arith, at.1)

module _ (site : FrontSite) (book : Ledger) (past : List FrontEvent) (event : FrontEvent) (ledger next : Ledger) (keeps : Keeps site ledger next) where
  abbrev Later : List FrontEvent
  Later = past ++ event ∷ []

  -- what was sent before
  sent_before : (place : ℕ) (items : Traffic) → place < length past → All (IsSentRightly site book past ledger place) items → All (IsSentRightly site book Later next place) items
  sent_before place items lt all = All-weaker (IsSentRightly site book past ledger place) (IsSentRightly site book Later next place) still items all
    where
      still : (item : ConnId × Message) → IsSentRightly site book past ledger place item → IsSentRightly site book Later next place item
      still item r =
          let below : place ≤ length past = omega arith in
          let within : place + 1 ≤ length past = omega arith in
          let so_far = IsRightAnswer-grows site book (take (place + 1) past) (take (place + 1) past) ledger next (fuller site book (take (place + 1) past) ledger next keeps) item r.right in
          record {
            up = subst (λ (events : List FrontEvent). is_among (run_of site book events).front.connections item.0 ≡ true) (sym (take-append-le place past (event ∷ []) below)) r.up;
            right = subst (λ (events : List FrontEvent). IsRightAnswer site book events next item) (sym (take-append-le (place + 1) past (event ∷ []) within)) so_far;
          }

  -- what is sent now
  sent_now : (items : Traffic) → All (IsRightAnswer site book Later next) items → AllUp (run_of site book past).front items → All (IsSentRightly site book Later next (length past)) items
  sent_now items right up i other lt =
      let whole : length Later ≤ length past + 1 = omega (arith, length-append past (event ∷ [])) in
      let item : ConnId × Message = get_or items i other in
      record {
        up = subst (λ (events : List FrontEvent). is_among (run_of site book events).front.connections item.0 ≡ true) (sym (take-append_seam past (event ∷ []))) (up i other lt);
        right = subst (λ (events : List FrontEvent). IsRightAnswer site book events next item) (sym (take_all (length past + 1) Later whole)) (right i other lt);
      }

  sent_pushed : (sent : List Traffic) (more : Traffic) → length sent ≡ length past → EachSent (IsSentRightly site book past ledger) sent → All (IsRightAnswer site book Later next) more → AllUp (run_of site book past).front more
      → EachSent (IsSentRightly site book Later next) (sent ++ more ∷ [])
  sent_pushed sent more len all right up place items e = at (slice_get-push sent more place items e)
    where
      at : (slice_get sent place ≡ Some items) ⊎ ((place ≡ length sent) × (more ≡ items)) → All (IsSentRightly site book Later next place) items
      at (inl before) =
          let among : place < length sent = slice_get_within sent place items before in
          let lt : place < length past = omega arith in
          sent_before place items lt (all place items before)
      at (inr now) =
          let here : place ≡ length past = now.0 ∙ len in
          subst (λ (p : ℕ). All (IsSentRightly site book Later next p) items) (sym here)
          (subst (λ (xs : Traffic). All (IsSentRightly site book Later next (length past)) xs) now.1 (sent_now more right up))

-- ---- the run goes on

event_asked : (past : List FrontEvent) (event : FrontEvent) (conn : ConnId) (message : Message) → event ≡ FrontEvent.Message conn message → message.header.request ≡ true → IsAsked (past ++ event ∷ []) conn message
event_asked past event conn message e request = subst (λ (x : FrontEvent). IsAsked (past ++ x ∷ []) conn message) (sym e) (asked_now past conn message request)

event_stands : (site : FrontSite) (book : Ledger) (past : List FrontEvent) (event : FrontEvent) → Stands site book past (run_of site book past) → Stands site book (past ++ event ∷ []) (run_with (run_of site book past) event)
event_stands site book past event s =
    let run : FrontRun = run_of site book past in
    let later : List FrontEvent = past ++ event ∷ [] in
    let turn : Turn = after_event run.front run.ledger event in
    let g = longer site book past (event ∷ []) run.ledger in
    let t : TurnStands site book later run.front run.ledger turn =
    event_turn site book later run.ledger (GrowsByRequests-grows site book past later run.ledger run.ledger g run.ledger s.grown) s.legal run.front event (event_asked past event) (Contains-push past event)
    (λ conn message refusal shown. cause_now site book past conn message event refusal shown) (FrontStands-grows site book past later run.ledger run.ledger g run.front s.front) in
    let len : length (run.sent ++ turn.sent ∷ []) ≡ length later = omega (arith, length-append run.sent (turn.sent ∷ []), length-append past (event ∷ []), s.length_of) in
    record {
      front = t.front;
      length_of = len;
      sent = sent_pushed site book past event run.ledger turn.ledger t.keeps run.sent turn.sent s.length_of s.sent t.sent t.up;
      grown = t.grown;
      legal = t.legal;
      not_more = λ conn hop end. pushed_le conn hop end past event run.front run.sent turn (s.not_more conn hop end) (event_le conn hop end run.front run.ledger event);
    }

run_stands : (site : FrontSite) (book : Ledger) (past events : List FrontEvent) → Stands site book past (run_of site book past) → Stands site book (past ++ events) (run_of site book (past ++ events))
run_stands site book past [] s = subst (λ (all : List FrontEvent). Stands site book all (run_of site book all)) (sym (append-nil past)) s
run_stands site book past (event ∷ events) s =
    subst (λ (all : List FrontEvent). Stands site book all (run_of site book all)) (append_assoc past (event ∷ []) events)
    (run_stands site book (past ++ event ∷ []) events (subst (Stands site book (past ++ event ∷ [])) (sym (run_of-push site book past event)) (event_stands site book past event s)))

pub promise_kept : (site : FrontSite) (book : Ledger) (events : List FrontEvent) → IsLegal book.terms book.history → KeepsPromise site book events (run_of site book events).sent (run_of site book events).ledger
promise_kept site book events legal =
    let s = run_stands site book [] events (subst (Stands site book []) (sym (run_of-nil site book)) (first_stands site book legal)) in
    record {
      answers = s.sent;
      not_more = λ conn hop end. let all = s.not_more conn hop end in omega (arith, all);
      grown = s.grown;
    }
