-- Each event of a front keeps what stands of it.
use Rattle.std.proofs.Common.{inl, inr, ◌≡◌, ℕ, zero, suc, Bool, true, false, cond, ltb, List, [], ◌∷◌, ◌++◌, length, Option, Some, None, Result, Ok, Err, refl, sym, subst, ap, ◌∙◌, append_assoc}
use Rattle.std.specs.Prelude.{◌⊎◌, All, Contains, slice_get, unwrap_or}
use Rattle.std.proofs.lemmas.List.Elements.{All-nil, All-cons, All-push, All-head, All-tail, All-set, All-replicate, All-weaker}
use Rattle.std.proofs.lemmas.Option.{slice_get_within, get_or_from_slice_get, same_Some}
use Rattle.dia_base.specs.declared.number.ConnId.{ConnId}
use Rattle.dia_base.specs.declared.number.Moment.{Moment}
use Rattle.dia_message.specs.declared.message.Message.{Message}
use Rattle.dia_message.specs.Traffic.{Traffic}
use Rattle.cc_view.specs.declared.code.ResultCode.TheVariants.{TooBusy}
use Rattle.cc_view.specs.declared.refusal.Refusal.{Refusal}
use Rattle.cc_view.specs.Answer.{refusal_of}
use Rattle.cc_view.specs.Refusal.{refusal_with}
use Rattle.cc_book.specs.declared.entry.Entry.{Entry}
use Rattle.cc_book.specs.declared.entry.Entry.TheVariants.{Take, Sweep, ChangeTerms}
use Rattle.cc_book.specs.History.{IsLegal}
use Rattle.cc_book.specs.declared.book.BookRefusal.{BookRefusal}
use Rattle.cc_book.specs.declared.terms_change.ChangeRefusal.{ChangeRefusal}
use Rattle.cc_book.specs.declared.terms_change.TermsChange.{TermsChange}
use Rattle.cc_book.specs.Changing.{after_change_with, change_answer}
use Rattle.cc_book.specs.Taking.{Ledger, after_sweep, sweep_answer, after_sweep_with}
use Rattle.cc_book.proofs.Changing.{made-change}
use Rattle.cc_book.proofs.Keys.{IsLegal-change, IsLegal-push, IsLegal-sweep, new-without_reply}
use Rattle.cc_book.proofs.Sweeps.{sweep-ends}
use Rattle.front_core.specs.declared.event.FrontEvent.{FrontEvent}
use Rattle.front_core.specs.declared.event.FrontEvent.TheVariants.{Up, Pick, Charge, Refuse, Emit, Lost, Restart}
use Rattle.front_core.specs.declared.site.FrontSite.{FrontSite}
use Rattle.front_core.specs.declared.worker.Job.{Job}
use Rattle.front_core.specs.declared.worker.Worker.{Worker}
use Rattle.front_core.specs.declared.worker.Worker.TheVariants.{Idle, Picked, Done}
use Rattle.front_core.specs.Answered.{IsBookAnswer, IsRefusedAtCharge, IsRefusedAtArrival}
use Rattle.front_core.specs.Cause.{ArrivalCause, ChargeCause, queue_full}
use Rattle.front_core.specs.ChargeCases.{IsCharge, refuses, repeats, has_no_room, takes}
use Rattle.front_core.specs.ChangingTerms.{after_change}
use Rattle.front_core.specs.Charging.{answer_in, book_after}
use Rattle.front_core.specs.FrontRun.{Turn, silent_turn, sending_turn, after_event}
use Rattle.front_core.specs.FrontState.{FrontState, is_among}
use Rattle.front_core.specs.FrontStep.{with_connection, without_connection, with_job, with_worker, too_busy, after_arrival, sent_at_arrival, preparation_at, after_pick_from, after_pick_by, after_pick, after_charge_by, after_refusal_by, after_emit_by, after_emit, after_restart}
use Rattle.front_core.specs.Promise.{IsAsked, EventCause, HasCause, at_arrival, at_charge, by_order, IsRightAnswer, IsOfRequest, GrowsByRequests}
use Rattle.front_core.proofs.Charges.{charge_case, answered_or_refused, answered-stays, arrival_refused}
use Rattle.front_core.proofs.Standing.{WorkerStands, JobStands, FrontStands, Keeps, fuller, FrontStands-grows}

-- the messages go on connections that are up
abbrev pub AllUp : FrontState → Traffic → Type 0
AllUp front items = All (λ item. is_among front.connections item.0 ≡ true) items

-- what stands after an event
pub record TurnStands (site : FrontSite) (book : Ledger) (past : List FrontEvent) (old : FrontState) (ledger : Ledger) (turn : Turn) : Type 0 where
  pub front : FrontStands site book past turn.ledger turn.front
  pub sent : All (IsRightAnswer site book past turn.ledger) turn.sent
  pub up : AllUp old turn.sent
  pub grown : GrowsByRequests site past book turn.ledger
  pub legal : IsLegal turn.ledger.terms turn.ledger.history
  pub keeps : Keeps site ledger turn.ledger

-- ---- events that change the front alone

module _ (site : FrontSite) (book : Ledger) (past : List FrontEvent) (ledger : Ledger) where
  abbrev Front : FrontState → Type 0
  Front = FrontStands site book past ledger

  abbrev Works : Worker → Type 0
  Works = WorkerStands site book past ledger

  abbrev Right : ConnId × Message → Type 0
  Right = IsRightAnswer site book past ledger

  pub with_worker_stands : (front : FrontState) (worker : ℕ) (held : Worker) → Works held → Front front → Front (with_worker front worker held)
  with_worker_stands front worker held h s = record { of_site = s.of_site; waiting = s.waiting; working = All-set Works front.workers worker held h s.working }

  pub held_stands : (front : FrontState) (worker : ℕ) (held : Worker) → slice_get front.workers worker ≡ Some held → Front front → Works held
  held_stands front worker held e s = subst Works (get_or_from_slice_get front.workers worker held held e) (s.working worker held (slice_get_within front.workers worker held e))

  connection_by : (front : FrontState) (conn : ConnId) (b : Bool) → Front front → Front (cond b front (record front { connections = front.connections ++ conn ∷ [] }))
  connection_by front conn true s = s
  connection_by front conn false s = record { of_site = s.of_site; waiting = s.waiting; working = s.working }

  pub with_connection_stands : (front : FrontState) (conn : ConnId) → Front front → Front (with_connection front conn)
  with_connection_stands front conn s = connection_by front conn (is_among front.connections conn) s

  pub restart_stands : (front : FrontState) → Front front → Front (after_restart front)
  restart_stands front s = record { of_site = s.of_site; waiting = All-nil (JobStands past); working = All-replicate Works (length front.workers) Idle tt }

  arrival_by : (front : FrontState) (conn : ConnId) (message : Message) (requests room : Bool) → message.header.request ≡ requests → (message.header.request ≡ true → IsAsked past conn message) → Front front
      → Front (cond requests (cond room (with_job front conn message) front) front)
  arrival_by front conn message true true e asked s = record { of_site = s.of_site; waiting = All-push (JobStands past) front.queue (record { conn = conn; request = message }) s.waiting (asked e); working = s.working }
  arrival_by front conn message true false e asked s = s
  arrival_by front conn message false room e asked s = s

  pub arrival_stands : (front : FrontState) (conn : ConnId) (message : Message) → (message.header.request ≡ true → IsAsked past conn message) → Front front → Front (after_arrival front conn message)
  arrival_stands front conn message asked s = arrival_by front conn message message.header.request (ltb (length front.queue) front.site.queue) refl asked s

  pick_from_stands : (front next : FrontState) (worker : ℕ) (queue : List Job) → All (JobStands past) queue → after_pick_from front worker queue ≡ Some next → Front front → Front next
  pick_from_stands front next worker [] jobs e s = absurd cc
  pick_from_stands front next worker (job ∷ queue) jobs e s =
      subst Front (same_Some _ _ e) (with_worker_stands (record front { queue = queue }) worker (Picked job.conn job.request) (All-head (JobStands past) job queue jobs)
      (record { of_site = s.of_site; waiting = All-tail (JobStands past) job queue jobs; working = s.working }))

  pick_by_stands : (front next : FrontState) (worker : ℕ) (held : Option Worker) → after_pick_by front worker held ≡ Some next → Front front → Front next
  pick_by_stands front next worker None e s = absurd cc
  pick_by_stands front next worker (Some Idle) e s = pick_from_stands front next worker front.queue s.waiting e s
  pick_by_stands front next worker (Some (Picked conn message)) e s = absurd cc
  pick_by_stands front next worker (Some (Done conn answer)) e s = absurd cc

  pub pick_stands : (front : FrontState) (worker : ℕ) (next : Option FrontState) → after_pick front worker ≡ next → Front front → Front (unwrap_or next front)
  pick_stands front worker None e s = s
  pick_stands front worker (Some next) e s = pick_by_stands front next worker (slice_get front.workers worker) e s

  right_if : (up : Bool) (conn : ConnId) (answer : Message) → Right (conn, answer) → All Right (cond up ((conn, answer) ∷ []) [])
  right_if true conn answer right = All-cons Right (conn, answer) [] right (All-nil Right)
  right_if false conn answer right = All-nil Right

  up_if : (front : FrontState) (up : Bool) (conn : ConnId) (answer : Message) → is_among front.connections conn ≡ up → AllUp front (cond up ((conn, answer) ∷ []) [])
  up_if front true conn answer e = All-cons (λ (item : ConnId × Message). is_among front.connections item.0 ≡ true) (conn, answer) [] e (All-nil _)
  up_if front false conn answer e = All-nil _

  emit_by_stands : (front : FrontState) (worker : ℕ) (turn : FrontState × Traffic) (held : Option Worker) → slice_get front.workers worker ≡ held → after_emit_by front worker held ≡ Some turn → Front front → Front turn.0 × All Right turn.1 × AllUp front turn.1
  emit_by_stands front worker turn None at e s = absurd cc
  emit_by_stands front worker turn (Some Idle) at e s = absurd cc
  emit_by_stands front worker turn (Some (Picked conn message)) at e s = absurd cc
  emit_by_stands front worker turn (Some (Done conn answer)) at e s =
      let up : Bool = is_among front.connections conn in
      subst (λ (t : FrontState × Traffic). Front t.0 × All Right t.1 × AllUp front t.1) (same_Some _ _ e)
      (with_worker_stands front worker Idle tt s, right_if up conn answer (held_stands front worker (Done conn answer) at s), up_if front up conn answer refl)

  pub emit_stands : (front : FrontState) (worker : ℕ) (turn : Option (FrontState × Traffic)) → after_emit front worker ≡ turn → Front front → let left = unwrap_or turn (front, []) in Front left.0 × All Right left.1 × AllUp front left.1
  emit_stands front worker None e s = (s, All-nil Right, All-nil _)
  emit_stands front worker (Some turn) e s = emit_by_stands front worker turn (slice_get front.workers worker) refl e s

  -- ---- the whole turn, where the book stays

  pub same_book : (old : FrontState) (turn : Turn) → turn.ledger ≡ ledger → Front turn.front → All Right turn.sent → AllUp old turn.sent → GrowsByRequests site past book ledger → IsLegal ledger.terms ledger.history → TurnStands site book past old ledger turn
  same_book old turn e front sent up grown legal = record {
    up = up;
    front = subst (λ (l : Ledger). FrontStands site book past l turn.front) (sym e) front;
    sent = subst (λ (l : Ledger). All (IsRightAnswer site book past l) turn.sent) (sym e) sent;
    grown = subst (λ (l : Ledger). GrowsByRequests site past book l) (sym e) grown;
    legal = subst (λ (l : Ledger). IsLegal l.terms l.history) (sym e) legal;
    keeps = λ message answer a. subst (λ (l : Ledger). IsBookAnswer site l message answer) (sym e) a;
  }

-- ---- a charge, and the book

record BookGrows (site : FrontSite) (book : Ledger) (past : List FrontEvent) (ledger next : Ledger) : Type 0 where
  grown : GrowsByRequests site past book next
  legal : IsLegal next.terms next.history
  keeps : Keeps site ledger next

book_grows : (site : FrontSite) (book : Ledger) (past : List FrontEvent) (ledger next : Ledger) (moment : Moment) (conn : ConnId) (message answer : Message) → IsCharge site ledger moment message answer next
    → IsAsked past conn message → GrowsByRequests site past book ledger → IsLegal ledger.terms ledger.history → BookGrows site book past ledger next
book_grows site book past ledger next moment conn message answer (refuses refusal view) asked g legal = record { grown = g; legal = legal; keeps = λ m a x. x }
book_grows site book past ledger next moment conn message answer (repeats request reply view kept) asked g legal = record { grown = g; legal = legal; keeps = λ m a x. x }
book_grows site book past ledger next moment conn message answer (has_no_room request view new full) asked g legal = record { grown = g; legal = legal; keeps = λ m a x. x }
book_grows site book past ledger next moment conn message answer (takes request view new room) asked g legal = record {
  grown = record {
    more = g.more ++ Take moment request ∷ [];
    grown =
        ap (λ (l : Ledger). let grown : Ledger = record l { history = l.history ++ Take moment request ∷ [] } in grown) g.grown
        ∙ ap (λ (h : List Entry). let grown : Ledger = record book { history = h } in grown) (append_assoc book.history g.more (Take moment request ∷ []));
    taken = All-push (IsOfRequest site past) g.more (Take moment request) g.taken (conn, message, asked, view);
  };
  legal = IsLegal-push ledger.terms ledger.history moment request legal (new-without_reply ledger.terms ledger.history _ new);
  keeps = answered-stays site ledger (Take moment request ∷ []);
}

-- ---- a sweep, and the book

-- a book that did not change
book_same : (site : FrontSite) (book : Ledger) (past : List FrontEvent) (ledger : Ledger) → GrowsByRequests site past book ledger → IsLegal ledger.terms ledger.history → BookGrows site book past ledger ledger
book_same site book past ledger g legal = record { grown = g; legal = legal; keeps = λ m a x. x }

book_swept : (site : FrontSite) (book : Ledger) (past : List FrontEvent) (ledger : Ledger) (moment : Moment) (answer : Result ℕ BookRefusal) → sweep_answer ledger moment ≡ answer → Contains past (FrontEvent.Sweep moment)
    → GrowsByRequests site past book ledger → IsLegal ledger.terms ledger.history → BookGrows site book past ledger (after_sweep_with ledger moment answer)
book_swept site book past ledger moment (Ok zero) e told g legal = book_same site book past ledger g legal
book_swept site book past ledger moment (Err refusal) e told g legal = book_same site book past ledger g legal
book_swept site book past ledger moment (Ok (suc n)) e told g legal = record {
  grown = record {
    more = g.more ++ Sweep moment ∷ [];
    grown =
        ap (λ (l : Ledger). let grown : Ledger = record l { history = l.history ++ Sweep moment ∷ [] } in grown) g.grown
        ∙ ap (λ (h : List Entry). let grown : Ledger = record book { history = h } in grown) (append_assoc book.history g.more (Sweep moment ∷ []));
    taken = All-push (IsOfRequest site past) g.more (Sweep moment) g.taken told;
  };
  legal = IsLegal-sweep ledger.terms ledger.history moment legal (sweep-ends ledger moment n e);
  keeps = answered-stays site ledger (Sweep moment ∷ []);
}

-- ---- a change of the terms, and the book

book_changed : (site : FrontSite) (book : Ledger) (past : List FrontEvent) (ledger : Ledger) (moment : Moment) (change : TermsChange) (answer : Result ℕ ChangeRefusal) → change_answer ledger change ≡ answer
    → Contains past (FrontEvent.ChangeTerms moment change) → GrowsByRequests site past book ledger → IsLegal ledger.terms ledger.history → BookGrows site book past ledger (after_change_with ledger moment change answer)
book_changed site book past ledger moment change (Err refusal) e told g legal = book_same site book past ledger g legal
book_changed site book past ledger moment change (Ok place) e told g legal = record {
  grown = record {
    more = g.more ++ ChangeTerms moment change ∷ [];
    grown =
        ap (λ (l : Ledger). let grown : Ledger = record l { history = l.history ++ ChangeTerms moment change ∷ [] } in grown) g.grown
        ∙ ap (λ (h : List Entry). let grown : Ledger = record book { history = h } in grown) (append_assoc book.history g.more (ChangeTerms moment change ∷ []));
    taken = All-push (IsOfRequest site past) g.more (ChangeTerms moment change) g.taken told;
  };
  legal = IsLegal-change ledger.terms ledger.history moment change legal (made-change ledger change place e).0;
  keeps = answered-stays site ledger (ChangeTerms moment change ∷ []);
}

-- ---- events at which the book, or the list of events, counts

module _ (site : FrontSite) (book : Ledger) (past : List FrontEvent) (ledger : Ledger) (grown : GrowsByRequests site past book ledger) (legal : IsLegal ledger.terms ledger.history) where
  -- what the last event shows of a front is a cause
  abbrev Shows : FrontEvent → FrontState → Type 0
  Shows event front = (conn : ConnId) (message : Message) (refusal : Refusal) → EventCause front ledger conn message event refusal → HasCause site book past conn message refusal

  abbrev Stood : FrontState → Type 0
  Stood = FrontStands site book past ledger

  abbrev After : FrontState → Turn → Type 0
  After old = TurnStands site book past old ledger

  -- the front changed, and nothing was sent
  quiet_turn : (old front : FrontState) → Stood front → After old (silent_turn front ledger)
  quiet_turn old front s = same_book site book past ledger old (silent_turn front ledger) refl s (All-nil (IsRightAnswer site book past ledger)) (All-nil _) grown legal

  -- ---- a message

  asks_for : (front : FrontState) (message : Message) (refusal : Refusal) → ArrivalCause front message refusal → message.header.request ≡ true
  asks_for front message refusal (queue_full request full) = request

  refused_right : (front : FrontState) (conn : ConnId) (message : Message) → is_among front.connections conn ≡ true → (message.header.request ≡ true → IsAsked past conn message) → Shows (FrontEvent.Message conn message) front → Stood front
      → (item : ConnId × Message) → (item.0 ≡ conn) × IsRefusedAtArrival front message item.1 → IsRightAnswer site book past ledger item
  refused_right front conn message up asked shows s item r =
      let right : IsRightAnswer site book past ledger (conn, item.1) = inr (record {
        message = message;
        asked = asked (asks_for front message r.1.refusal r.1.cause);
        refusal = r.1.refusal;
        cause = shows conn message r.1.refusal (at_arrival r.1.refusal up r.1.cause);
        written = subst (λ (x : FrontSite). item.1 ≡ refusal_of x.name x.realm message r.1.refusal) s.of_site r.1.written;
      }) in
      subst (λ (c : ConnId). IsRightAnswer site book past ledger (c, item.1)) (sym r.0) right

  message_turn : (front : FrontState) (conn : ConnId) (message : Message) (up : Bool) → is_among front.connections conn ≡ up → (message.header.request ≡ true → IsAsked past conn message) → Shows (FrontEvent.Message conn message) front → Stood front
      → After front (cond up (sending_turn (after_arrival front conn message, sent_at_arrival front conn message) ledger) (silent_turn front ledger))
  message_turn front conn message false e asked shows s = quiet_turn front front s
  message_turn front conn message true e asked shows s =
      let all = arrival_refused front conn message in
      let up_there = λ (item : ConnId × Message) (r : (item.0 ≡ conn) × IsRefusedAtArrival front message item.1). subst (λ (c : ConnId). is_among front.connections c ≡ true) (sym r.0) e in
      same_book site book past ledger front (sending_turn (after_arrival front conn message, sent_at_arrival front conn message) ledger) refl (arrival_stands site book past ledger front conn message asked s)
      (All-weaker (λ (item : ConnId × Message). (item.0 ≡ conn) × IsRefusedAtArrival front message item.1) (IsRightAnswer site book past ledger) (refused_right front conn message e asked shows s) (sent_at_arrival front conn message) all)
      (All-weaker (λ (item : ConnId × Message). (item.0 ≡ conn) × IsRefusedAtArrival front message item.1) (λ (item : ConnId × Message). is_among front.connections item.0 ≡ true) up_there (sent_at_arrival front conn message) all) grown legal

  -- ---- a charge

  charged_right : (front : FrontState) (next : Ledger) (moment : Moment) (worker : ℕ) (conn : ConnId) (message answer : Message) → slice_get front.workers worker ≡ Some (Picked conn message) → IsAsked past conn message → Shows (Charge worker moment) front → Stood front
      → IsBookAnswer site next message answer ⊎ IsRefusedAtCharge site ledger message answer → IsRightAnswer site book past next (conn, answer)
  charged_right front next moment worker conn message answer at asked shows s (inl a) = inl (record { message = message; asked = asked; answered = a })
  charged_right front next moment worker conn message answer at asked shows s (inr r) = inr (record {
    message = message;
    asked = asked;
    refusal = r.refusal;
    cause = shows conn message r.refusal (at_charge worker moment r.refusal at (subst (λ (x : FrontSite). ChargeCause x ledger message r.refusal) (sym s.of_site) r.cause));
    written = r.written;
  })

  charged : (front : FrontState) (next : Ledger) (moment : Moment) (worker : ℕ) (conn : ConnId) (message answer : Message) → slice_get front.workers worker ≡ Some (Picked conn message) → IsCharge front.site ledger moment message answer next → Shows (Charge worker moment) front → Stood front
      → After front (silent_turn (with_worker front worker (Done conn answer)) next)
  charged front next moment worker conn message answer at charge shows s =
      let asked : IsAsked past conn message = held_stands site book past ledger front worker (Picked conn message) at s in
      let cases : IsCharge site ledger moment message answer next = subst (λ (x : FrontSite). IsCharge x ledger moment message answer next) s.of_site charge in
      let b = book_grows site book past ledger next moment conn message answer cases asked grown legal in
      let right = charged_right front next moment worker conn message answer at asked shows s (answered_or_refused site ledger next moment message answer legal cases) in
      record {
        front = with_worker_stands site book past next front worker (Done conn answer) right (FrontStands-grows site book past past ledger next (fuller site book past ledger next b.keeps) front s);
        sent = All-nil (IsRightAnswer site book past next);
        up = All-nil _;
        grown = b.grown;
        legal = b.legal;
        keeps = b.keeps;
      }

  charge_turn : (front : FrontState) (moment : Moment) (worker : ℕ) (held : Option Worker) → slice_get front.workers worker ≡ held → Shows (Charge worker moment) front → Stood front
      → After front (let turn = unwrap_or (after_charge_by front ledger moment worker held) (front, ledger) in silent_turn turn.0 turn.1)
  charge_turn front moment worker None at shows s = quiet_turn front front s
  charge_turn front moment worker (Some Idle) at shows s = quiet_turn front front s
  charge_turn front moment worker (Some (Done conn answer)) at shows s = quiet_turn front front s
  charge_turn front moment worker (Some (Picked conn message)) at shows s =
      charged front (book_after ledger moment (preparation_at front.site message)) moment worker conn message (answer_in front.site ledger message (preparation_at front.site message)) at (charge_case front.site ledger moment message) shows s

  -- ---- a refusal by order

  refusal_turn : (front : FrontState) (worker : ℕ) (held : Option Worker) → slice_get front.workers worker ≡ held → Shows (Refuse worker) front → Stood front → After front (silent_turn (unwrap_or (after_refusal_by front worker held) front) ledger)
  refusal_turn front worker None at shows s = quiet_turn front front s
  refusal_turn front worker (Some Idle) at shows s = quiet_turn front front s
  refusal_turn front worker (Some (Done conn answer)) at shows s = quiet_turn front front s
  refusal_turn front worker (Some (Picked conn message)) at shows s =
      let right : IsRightAnswer site book past ledger (conn, too_busy front.site message) = inr (record {
        message = message;
        asked = held_stands site book past ledger front worker (Picked conn message) at s;
        refusal = refusal_with TooBusy;
        cause = shows conn message (refusal_with TooBusy) (by_order worker at);
        written = ap (λ (x : FrontSite). too_busy x message) s.of_site;
      }) in
      quiet_turn front (with_worker front worker (Done conn (too_busy front.site message))) (with_worker_stands site book past ledger front worker (Done conn (too_busy front.site message)) right s)

  -- ---- a sweep

  sweep_turn : (front : FrontState) (moment : Moment) → Contains past (FrontEvent.Sweep moment) → Stood front → After front (silent_turn front (after_sweep ledger moment))
  sweep_turn front moment told s =
      let next = after_sweep ledger moment in
      let b = book_swept site book past ledger moment (sweep_answer ledger moment) refl told grown legal in
      record {
        front = FrontStands-grows site book past past ledger next (fuller site book past ledger next b.keeps) front s;
        sent = All-nil (IsRightAnswer site book past next);
        up = All-nil _;
        grown = b.grown;
        legal = b.legal;
        keeps = b.keeps;
      }

  -- ---- a change of the terms

  change_turn : (front : FrontState) (moment : Moment) (change : TermsChange) → Contains past (FrontEvent.ChangeTerms moment change) → Stood front → After front (silent_turn front (after_change ledger moment change))
  change_turn front moment change told s =
      let next = after_change ledger moment change in
      let b = book_changed site book past ledger moment change (change_answer ledger change) refl told grown legal in
      record {
        front = FrontStands-grows site book past past ledger next (fuller site book past ledger next b.keeps) front s;
        sent = All-nil (IsRightAnswer site book past next);
        up = All-nil _;
        grown = b.grown;
        legal = b.legal;
        keeps = b.keeps;
      }

  -- ---- any event

  emit_turn : (front : FrontState) (worker : ℕ) → Stood front → After front (sending_turn (unwrap_or (after_emit front worker) (front, [])) ledger)
  emit_turn front worker s =
      let left = emit_stands site book past ledger front worker (after_emit front worker) refl s in
      same_book site book past ledger front (sending_turn (unwrap_or (after_emit front worker) (front, [])) ledger) refl left.0 left.1 left.2 grown legal

  pub event_turn : (front : FrontState) (event : FrontEvent) → ((conn : ConnId) (message : Message) → event ≡ FrontEvent.Message conn message → message.header.request ≡ true → IsAsked past conn message) → Contains past event → Shows event front → Stood front → After front (after_event front ledger event)
  event_turn front (Up conn) asked told shows s = quiet_turn front (with_connection front conn) (with_connection_stands site book past ledger front conn s)
  event_turn front (FrontEvent.Message conn message) asked told shows s = message_turn front conn message (is_among front.connections conn) refl (asked conn message refl) shows s
  event_turn front (Pick worker) asked told shows s = quiet_turn front (unwrap_or (after_pick front worker) front) (pick_stands site book past ledger front worker (after_pick front worker) refl s)
  event_turn front (Charge worker moment) asked told shows s = charge_turn front moment worker (slice_get front.workers worker) refl shows s
  event_turn front (Refuse worker) asked told shows s = refusal_turn front worker (slice_get front.workers worker) refl shows s
  event_turn front (Emit worker) asked told shows s = emit_turn front worker s
  event_turn front (FrontEvent.Sweep moment) asked told shows s = sweep_turn front moment told s
  event_turn front (FrontEvent.ChangeTerms moment change) asked told shows s = change_turn front moment change told s
  event_turn front (Lost conn) asked told shows s = quiet_turn front (without_connection front conn) (record { of_site = s.of_site; waiting = s.waiting; working = s.working })
  event_turn front Restart asked told shows s = quiet_turn front (after_restart front) (restart_stands site book past ledger front s)
