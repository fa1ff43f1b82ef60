-- How many answers a front may still give, with some identifiers on some connection: no event makes it more
-- than the requests that come.
use Rattle.std.proofs.Common.{◌≡◌, ℕ, ◌+◌, ◌≤◌, Bool, true, false, cond, eqb, ltb, ◌&&◌, List, [], ◌∷◌, ◌++◌, length, get_or, replicate, Option, Some, None, refl, sym, subst, ap, ◌∙◌, arith, rules}
use Rattle.std.specs.Prelude.{slice_get, slice_set}
use Rattle.std.specs.List.{list_any, sum_by}
use Rattle.std.proofs.lemmas.List.Folds.{sum_by-replicate}
use Rattle.std.proofs.lemmas.List.Sums.{sum_by-cons, sum_by_push, sum_by-set}
use Rattle.std.proofs.lemmas.Option.{slice_get_within, get_or_from_slice_get, same_Some}
use Rattle.dia_base.specs.declared.number.ConnId.{ConnId}
use Rattle.dia_base.specs.declared.number.Moment.{Moment}
use Rattle.dia_message.specs.declared.message.Message.{Message}
use Rattle.dia_message.specs.Traffic.{Traffic}
use Rattle.cc_view.specs.Answer.{answer_to, refusal_of}
use Rattle.cc_book.specs.Taking.{Ledger}
use Rattle.front_core.specs.declared.site.FrontSite.{FrontSite}
use Rattle.front_core.specs.declared.worker.Job.{Job}
use Rattle.front_core.specs.declared.worker.Worker.{Worker}
use Rattle.front_core.specs.declared.worker.Worker.TheVariants.{Idle, Picked, Done}
use Rattle.front_core.specs.ChargeCases.{IsCharge, refuses, repeats, has_no_room, takes}
use Rattle.front_core.specs.Counts.{answers_with, is_at_worker, is_with, requests_with, unanswered_with}
use Rattle.front_core.specs.FrontState.{FrontState, is_among}
use Rattle.front_core.specs.FrontStep.{with_connection, with_job, with_worker, too_busy, after_arrival, sent_at_arrival, after_pick_from, after_pick_by, after_pick, after_charge_by, after_charge, after_refusal_by, after_refusal, after_emit_by, after_emit, after_restart}
use Rattle.front_core.proofs.Charges.{charge_case}

abbrev pub one : Bool → ℕ
one b = cond {A = ℕ} b 1 0

equal_number : (m n : ℕ) → eqb m n ≡ true → m ≡ n
equal_number m n e = search rules

pub sum_by-written : {A : Type 0} (f : A → ℕ) (xs : List A) (i : ℕ) (x y : A) → slice_get xs i ≡ Some y → sum_by f (slice_set xs i x) + f y ≡ sum_by f xs + f x
sum_by-written f xs i x y e =
    let was : get_or xs i y ≡ y = get_or_from_slice_get xs i y y e in
    subst (λ (old : _). sum_by f (slice_set xs i x) + f old ≡ sum_by f xs + f x) was (sum_by-set f xs i x y (slice_get_within xs i y e))

module _ (conn : ConnId) (hop end : ℕ) where
  -- a message that may become, or is, an answer with these identifiers
  abbrev pub counts : ConnId → Message → ℕ
  counts c message = one (is_with conn hop end (c, message))

  abbrev pub of_job : Job → ℕ
  of_job job = counts job.conn job.request

  abbrev pub of_worker : Worker → ℕ
  of_worker held = one (is_at_worker conn hop end held)

  abbrev pub at_front : FrontState → ℕ
  at_front front = sum_by of_job front.queue + sum_by of_worker front.workers

  abbrev pub of_item : ConnId × Message → ℕ
  of_item item = one (is_with conn hop end item)

  abbrev pub of_items : Traffic → ℕ
  of_items items = sum_by of_item items

  -- ---- parts of a front

  pub with_worker-is : (front : FrontState) (worker : ℕ) (old new : Worker) → slice_get front.workers worker ≡ Some old → at_front (with_worker front worker new) + of_worker old ≡ at_front front + of_worker new
  with_worker-is front worker old new e = omega (arith, sum_by-written of_worker front.workers worker new old e)

  pub with_job-is : (front : FrontState) (c : ConnId) (message : Message) → at_front (with_job front c message) ≡ at_front front + counts c message
  with_job-is front c message = omega (arith, sum_by_push of_job front.queue (record { conn = c; request = message }))

  pub without_job-is : (front : FrontState) (job : Job) (jobs : List Job) → front.queue ≡ job ∷ jobs → at_front (record front { queue = jobs }) + of_job job ≡ at_front front
  without_job-is front job jobs e =
      let all : sum_by of_job front.queue ≡ of_job job + sum_by of_job jobs = ap (sum_by of_job) e ∙ sum_by-cons of_job job jobs in
      omega (arith, all)

  pub idle-is : (n : ℕ) → sum_by of_worker (replicate n Idle) ≡ 0
  idle-is n = let all = sum_by-replicate of_worker n Idle in omega (arith, all)

  -- ---- answers have the identifiers of their requests

  pub of_refusal : (c : ConnId) (name realm : List ℕ) (message : Message) (code : _) → counts c (refusal_of name realm message code) ≡ counts c message
  unfolding refusal_of
  of_refusal c name realm message code = refl

  of_answer : (c : ConnId) (name realm : List ℕ) (message : Message) (request : _) (reply : _) → counts c (answer_to name realm message request reply) ≡ counts c message
  unfolding answer_to
  of_answer c name realm message request reply = refl

  pub of_too_busy : (c : ConnId) (site : FrontSite) (message : Message) → counts c (too_busy site message) ≡ counts c message
  of_too_busy c site message = of_refusal c site.name site.realm message _

  pub charge-is : (c : ConnId) (site : FrontSite) (ledger book : Ledger) (moment : Moment) (message answer : Message) → IsCharge site ledger moment message answer book → counts c answer ≡ counts c message
  charge-is c site ledger book moment message answer (refuses refusal view) = of_refusal c site.name site.realm message _
  charge-is c site ledger book moment message answer (repeats request reply view kept) = of_answer c site.name site.realm message request reply
  charge-is c site ledger book moment message answer (has_no_room request view new full) = of_refusal c site.name site.realm message _
  charge-is c site ledger book moment message answer (takes request view new room) = of_answer c site.name site.realm message request _

  -- ---- events

  with_connection_by : (front : FrontState) (c : ConnId) (b : Bool) → at_front (cond b front (record front { connections = front.connections ++ c ∷ [] })) ≡ at_front front
  with_connection_by front c true = refl
  with_connection_by front c false = refl

  pub with_connection-is : (front : FrontState) (c : ConnId) → at_front (with_connection front c) ≡ at_front front
  with_connection-is front c = with_connection_by front c (is_among front.connections c)

  arrival_by : (front : FrontState) (c : ConnId) (message : Message) (requests room : Bool)
      → at_front (cond requests (cond room (with_job front c message) front) front) + of_items (cond requests (cond room [] ((c, too_busy front.site message) ∷ [])) []) ≡ at_front front + cond requests (counts c message) 0
  arrival_by front c message true true = omega (arith, with_job-is front c message)
  arrival_by front c message true false = omega (arith, of_too_busy c front.site message)
  arrival_by front c message false room = omega arith

  pub arrival-is : (front : FrontState) (c : ConnId) (message : Message) → at_front (after_arrival front c message) + of_items (sent_at_arrival front c message) ≡ at_front front + cond message.header.request (counts c message) 0
  arrival-is front c message = arrival_by front c message message.header.request (ltb (length front.queue) front.site.queue)

  pick_from-is : (front next : FrontState) (worker : ℕ) (queue : List Job) → front.queue ≡ queue → slice_get front.workers worker ≡ Some Idle → after_pick_from front worker queue ≡ Some next → at_front next ≡ at_front front
  pick_from-is front next worker [] q idle e = absurd cc
  pick_from-is front next worker (job ∷ queue) q idle e =
      let left = without_job-is front job queue q in
      let works = with_worker-is (record front { queue = queue }) worker Idle (Picked job.conn job.request) idle in
      sym (ap at_front (same_Some _ _ e)) ∙ omega (arith, left, works)

  pick_by-is : (front next : FrontState) (worker : ℕ) (held : Option Worker) → slice_get front.workers worker ≡ held → after_pick_by front worker held ≡ Some next → at_front next ≡ at_front front
  pick_by-is front next worker None at e = absurd cc
  pick_by-is front next worker (Some Idle) at e = pick_from-is front next worker front.queue refl at e
  pick_by-is front next worker (Some (Picked c message)) at e = absurd cc
  pick_by-is front next worker (Some (Done c answer)) at e = absurd cc

  pub pick-is : (front next : FrontState) (worker : ℕ) → after_pick front worker ≡ Some next → at_front next ≡ at_front front
  pick-is front next worker e = pick_by-is front next worker (slice_get front.workers worker) refl e

  -- a worker that picked a request holds an answer to it then
  done-is : (front : FrontState) (worker : ℕ) (c : ConnId) (message answer : Message) → slice_get front.workers worker ≡ Some (Picked c message) → counts c answer ≡ counts c message → at_front (with_worker front worker (Done c answer)) ≡ at_front front
  done-is front worker c message answer at same = omega (arith, with_worker-is front worker (Picked c message) (Done c answer) at, same)

  charge_by-is : (front : FrontState) (ledger : Ledger) (moment : Moment) (worker : ℕ) (turn : FrontState × Ledger) (held : Option Worker) → slice_get front.workers worker ≡ held → after_charge_by front ledger moment worker held ≡ Some turn → at_front turn.0 ≡ at_front front
  charge_by-is front ledger moment worker turn None at e = absurd cc
  charge_by-is front ledger moment worker turn (Some Idle) at e = absurd cc
  charge_by-is front ledger moment worker turn (Some (Done c answer)) at e = absurd cc
  charge_by-is front ledger moment worker turn (Some (Picked c message)) at e =
      sym (ap (λ (t : FrontState × Ledger). at_front t.0) (same_Some _ _ e)) ∙ done-is front worker c message _ at (charge-is c front.site ledger _ moment message _ (charge_case front.site ledger moment message))

  pub charges-is : (front : FrontState) (ledger : Ledger) (moment : Moment) (worker : ℕ) (turn : FrontState × Ledger) → after_charge front ledger moment worker ≡ Some turn → at_front turn.0 ≡ at_front front
  charges-is front ledger moment worker turn e = charge_by-is front ledger moment worker turn (slice_get front.workers worker) refl e

  refusal_by-is : (front next : FrontState) (worker : ℕ) (held : Option Worker) → slice_get front.workers worker ≡ held → after_refusal_by front worker held ≡ Some next → at_front next ≡ at_front front
  refusal_by-is front next worker None at e = absurd cc
  refusal_by-is front next worker (Some Idle) at e = absurd cc
  refusal_by-is front next worker (Some (Done c answer)) at e = absurd cc
  refusal_by-is front next worker (Some (Picked c message)) at e = sym (ap at_front (same_Some _ _ e)) ∙ done-is front worker c message (too_busy front.site message) at (of_too_busy c front.site message)

  pub refusal-is : (front next : FrontState) (worker : ℕ) → after_refusal front worker ≡ Some next → at_front next ≡ at_front front
  refusal-is front next worker e = refusal_by-is front next worker (slice_get front.workers worker) refl e

  items_if : (up : Bool) (c : ConnId) (answer : Message) → of_items (cond up ((c, answer) ∷ []) []) ≤ counts c answer
  items_if true c answer = omega arith
  items_if false c answer = omega arith

  emit_by-le : (front : FrontState) (worker : ℕ) (turn : FrontState × Traffic) (held : Option Worker) → slice_get front.workers worker ≡ held → after_emit_by front worker held ≡ Some turn → at_front turn.0 + of_items turn.1 ≤ at_front front
  emit_by-le front worker turn None at e = absurd cc
  emit_by-le front worker turn (Some Idle) at e = absurd cc
  emit_by-le front worker turn (Some (Picked c message)) at e = absurd cc
  emit_by-le front worker turn (Some (Done c answer)) at e =
      let works = with_worker-is front worker (Done c answer) Idle at in
      let items = items_if (is_among front.connections c) c answer in
      subst (λ (t : FrontState × Traffic). at_front t.0 + of_items t.1 ≤ at_front front) (same_Some _ _ e) (omega (arith, works, items))

  pub emit-le : (front : FrontState) (worker : ℕ) (turn : FrontState × Traffic) → after_emit front worker ≡ Some turn → at_front turn.0 + of_items turn.1 ≤ at_front front
  emit-le front worker turn e = emit_by-le front worker turn (slice_get front.workers worker) refl e

  pub restart-is : (front : FrontState) → at_front (after_restart front) ≡ 0
  restart-is front = omega (arith, idle-is (length front.workers))

  -- ---- what comes is kept until it is answered

  asked_both : (a b : Bool) → cond a (one b) 0 + 0 ≡ one (a && b) + 0
  asked_both true b = refl
  asked_both false b = refl

  pub arrival-kept : (front : FrontState) (c : ConnId) (message : Message)
      → unanswered_with (after_arrival front c message) conn hop end + answers_with (sent_at_arrival front c message) conn hop end ≡ unanswered_with front conn hop end + requests_with ((c, message) ∷ []) conn hop end
  arrival-kept front c message =
      let came = arrival-is front c message in
      let asked = asked_both message.header.request (is_with conn hop end (c, message)) in
      omega (arith, came, asked)

  -- a message with these identifiers is on the connection
  own_up : (conns : List ConnId) (c : ConnId) (message : Message) → is_with conn hop end (c, message) ≡ true → is_among conns conn ≡ true → is_among conns c ≡ true
  own_up conns c message own up = by (eqb c.0 conn.0) refl own where
    by : (b : Bool) → eqb c.0 conn.0 ≡ b → ((b && eqb message.header.hop hop) && eqb message.header.end end) ≡ true → is_among conns c ≡ true
    by true e all = ap (λ (n : ℕ). list_any (λ (other : ConnId). eqb other.0 n) conns) (equal_number c.0 conn.0 e) ∙ up
    by false e all = absurd cc

  items_up : (up own : Bool) (c : ConnId) (answer : Message) → is_with conn hop end (c, answer) ≡ own → (own ≡ true → up ≡ true) → of_items (cond up ((c, answer) ∷ []) []) ≡ counts c answer
  items_up true own c answer e sends = omega arith
  items_up false true c answer e sends = absurd (let sent = sends refl in cc)
  items_up false false c answer e sends = sym (ap one e)

  emit_by-kept : (front : FrontState) (worker : ℕ) (turn : FrontState × Traffic) (held : Option Worker) → slice_get front.workers worker ≡ held → is_among front.connections conn ≡ true
      → after_emit_by front worker held ≡ Some turn → at_front turn.0 + of_items turn.1 ≡ at_front front
  emit_by-kept front worker turn None at up e = absurd cc
  emit_by-kept front worker turn (Some Idle) at up e = absurd cc
  emit_by-kept front worker turn (Some (Picked c message)) at up e = absurd cc
  emit_by-kept front worker turn (Some (Done c answer)) at up e =
      let works = with_worker-is front worker (Done c answer) Idle at in
      let items = items_up (is_among front.connections c) (is_with conn hop end (c, answer)) c answer refl (λ own. own_up front.connections c answer own up) in
      subst (λ (t : FrontState × Traffic). at_front t.0 + of_items t.1 ≡ at_front front) (same_Some _ _ e) (omega (arith, works, items))

  pub emit-kept : (front : FrontState) (worker : ℕ) (turn : FrontState × Traffic) → after_emit front worker ≡ Some turn → is_among front.connections conn ≡ true → at_front turn.0 + of_items turn.1 ≡ at_front front
  emit-kept front worker turn e up = emit_by-kept front worker turn (slice_get front.workers worker) refl up e
