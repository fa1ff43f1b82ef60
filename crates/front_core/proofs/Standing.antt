-- What stands of a front between two events of a run, and that it stands when the run goes on.
use Rattle.std.proofs.Common.{inl, inr, ◌≡◌, ℕ, zero, suc, ◌≤◌, ◌<◌, List, [], ◌∷◌, ◌++◌, length, Some, refl, sym, subst, true, arith}
use Rattle.std.specs.Prelude.{All, Contains, slice_get}
use Rattle.std.proofs.Math.Seq.{take-append_seam}
use Rattle.std.proofs.lemmas.List.{take-append-le}
use Rattle.std.proofs.lemmas.List.Elements.{All-weaker, Contains-append_left, Contains-push, filter_map-append}
use Rattle.std.proofs.lemmas.Option.{slice_get_within}
use Rattle.dia_base.specs.declared.number.ConnId.{ConnId}
use Rattle.dia_message.specs.declared.message.Message.{Message}
use Rattle.cc_view.specs.declared.refusal.Refusal.{Refusal}
use Rattle.cc_book.specs.declared.entry.Entry.{Entry}
use Rattle.cc_book.specs.declared.entry.Entry.TheVariants.{Take, Sweep, ChangeTerms}
use Rattle.cc_book.specs.Taking.{Ledger}
use Rattle.front_core.specs.declared.event.FrontEvent.{FrontEvent}
use Rattle.front_core.specs.declared.site.FrontSite.{FrontSite}
use Rattle.front_core.specs.declared.worker.Job.{Job}
use Rattle.front_core.specs.declared.worker.Worker.{Worker}
use Rattle.front_core.specs.declared.worker.Worker.TheVariants.{Idle, Picked, Done}
use Rattle.front_core.specs.Answered.{IsBookAnswer}
use Rattle.front_core.specs.FrontRun.{run_of}
use Rattle.front_core.specs.FrontState.{FrontState}
use Rattle.dia_message.specs.Traffic.{Traffic}
use Rattle.front_core.specs.Promise.{message_at, traffic_of, IsAsked, EventCause, HasCause, IsRightAnswer, IsOfRequest, GrowsByRequests}

abbrev pub JobStands : List FrontEvent → Job → Type 0
JobStands past job = IsAsked past job.conn job.request

abbrev pub WorkerStands : FrontSite → Ledger → List FrontEvent → Ledger → Worker → Type 0
WorkerStands site book past ledger Idle = Unit {0}
WorkerStands site book past ledger (Picked conn message) = IsAsked past conn message
WorkerStands site book past ledger (Done conn answer) = IsRightAnswer site book past ledger (conn, answer)

pub record FrontStands (site : FrontSite) (book : Ledger) (past : List FrontEvent) (ledger : Ledger) (front : FrontState) : Type 0 where
  pub of_site : front.site ≡ site
  pub waiting : All (JobStands past) front.queue
  pub working : All (WorkerStands site book past ledger) front.workers

-- ---- what has just happened

slice_get-behind : {A : Type 0} (before : List A) (x : A) (after : List A) → slice_get (before ++ x ∷ after) (length before) ≡ Some x
slice_get-behind [] x after = refl
slice_get-behind (first ∷ before) x after = slice_get-behind before x after

-- a request that comes was asked
pub asked_now : (past : List FrontEvent) (conn : ConnId) (message : Message) → message.header.request ≡ true → IsAsked (past ++ FrontEvent.Message conn message ∷ []) conn message
asked_now past conn message request = record {
  came = subst (λ (all : Traffic). Contains all (conn, message)) (sym (filter_map-append message_at past (FrontEvent.Message conn message ∷ []))) (Contains-push (traffic_of past) (conn, message));
  request = request;
}

-- a cause that the next event shows is a cause
pub cause_now : (site : FrontSite) (book : Ledger) (past : List FrontEvent) (conn : ConnId) (message : Message) (event : FrontEvent) (refusal : Refusal)
    → (let before = run_of site book past in EventCause before.front before.ledger conn message event refusal) → HasCause site book (past ++ event ∷ []) conn message refusal
cause_now site book past conn message event refusal shown = record {
  place = length past;
  event = event;
  at = slice_get-behind past event [];
  shown = subst (λ (events : List FrontEvent). let before = run_of site book events in EventCause before.front before.ledger conn message event refusal) (sym (take-append_seam past (event ∷ []))) shown;
}

-- ---- the run goes on: more events, more that was taken

slice_get-left : {A : Type 0} (xs ys : List A) (i : ℕ) (x : A) → slice_get xs i ≡ Some x → slice_get (xs ++ ys) i ≡ Some x
slice_get-left [] ys i x e = absurd cc
slice_get-left (y ∷ xs) ys zero x e = e
slice_get-left (y ∷ xs) ys (suc i) x e = slice_get-left xs ys i x e

-- what the book stands behind, it still stands behind later
abbrev pub Keeps : FrontSite → Ledger → Ledger → Type 0
Keeps site ledger next = (message answer : Message) → IsBookAnswer site ledger message answer → IsBookAnswer site next message answer

pub record Grows (site : FrontSite) (book : Ledger) (past later : List FrontEvent) (ledger next : Ledger) : Type 0 where
  pub asked : (conn : ConnId) (message : Message) → IsAsked past conn message → IsAsked later conn message
  pub cause : (conn : ConnId) (message : Message) (refusal : Refusal) → HasCause site book past conn message refusal → HasCause site book later conn message refusal
  pub told : (event : FrontEvent) → Contains past event → Contains later event
  pub keeps : Keeps site ledger next

-- one more event
asked_longer : (past more : List FrontEvent) (conn : ConnId) (message : Message) → IsAsked past conn message → IsAsked (past ++ more) conn message
asked_longer past more conn message a = record {
  came = subst (λ (all : Traffic). Contains all (conn, message)) (sym (filter_map-append message_at past more)) (Contains-append_left (traffic_of past) (traffic_of more) (conn, message) a.came);
  request = a.request;
}

cause_longer : (site : FrontSite) (book : Ledger) (past more : List FrontEvent) (conn : ConnId) (message : Message) (refusal : Refusal) → HasCause site book past conn message refusal → HasCause site book (past ++ more) conn message refusal
cause_longer site book past more conn message refusal h =
    let within : h.place < length past = slice_get_within past h.place h.event h.at in
    let below : h.place ≤ length past = omega arith in
    record {
      place = h.place;
      event = h.event;
      at = slice_get-left past more h.place h.event h.at;
      shown = subst (λ (events : List FrontEvent). let before = run_of site book events in EventCause before.front before.ledger conn message h.event refusal) (sym (take-append-le h.place past more below)) h.shown;
    }

pub longer : (site : FrontSite) (book : Ledger) (past more : List FrontEvent) (ledger : Ledger) → Grows site book past (past ++ more) ledger ledger
longer site book past more ledger = record { asked = asked_longer past more; cause = cause_longer site book past more; told = Contains-append_left past more; keeps = λ message answer a. a }

-- more in the book
pub fuller : (site : FrontSite) (book : Ledger) (past : List FrontEvent) (ledger next : Ledger) → Keeps site ledger next → Grows site book past past ledger next
fuller site book past ledger next keeps = record { asked = λ conn message a. a; cause = λ conn message refusal h. h; told = λ event c. c; keeps = keeps }

module _ (site : FrontSite) (book : Ledger) (past later : List FrontEvent) (ledger next : Ledger) (g : Grows site book past later ledger next) where
  pub IsRightAnswer-grows : (item : ConnId × Message) → IsRightAnswer site book past ledger item → IsRightAnswer site book later next item
  IsRightAnswer-grows item (inl a) = inl (record { message = a.message; asked = g.asked item.0 a.message a.asked; answered = g.keeps a.message item.1 a.answered })
  IsRightAnswer-grows item (inr r) = inr (record {
    message = r.message;
    asked = g.asked item.0 r.message r.asked;
    refusal = r.refusal;
    cause = g.cause item.0 r.message r.refusal r.cause;
    written = r.written;
  })

  worker_grows : (worker : Worker) → WorkerStands site book past ledger worker → WorkerStands site book later next worker
  worker_grows Idle s = tt
  worker_grows (Picked conn message) s = g.asked conn message s
  worker_grows (Done conn answer) s = IsRightAnswer-grows (conn, answer) s

  job_grows : (job : Job) → JobStands past job → JobStands later job
  job_grows job s = g.asked job.conn job.request s

  pub FrontStands-grows : (front : FrontState) → FrontStands site book past ledger front → FrontStands site book later next front
  FrontStands-grows front s = record {
    of_site = s.of_site;
    waiting = All-weaker (JobStands past) (JobStands later) job_grows front.queue s.waiting;
    working = All-weaker (WorkerStands site book past ledger) (WorkerStands site book later next) worker_grows front.workers s.working;
  }

  entry_grows : (entry : Entry) → IsOfRequest site past entry → IsOfRequest site later entry
  entry_grows (Take moment request) s = (s.0, s.1, g.asked s.0 s.1 s.2, s.3)
  entry_grows (Sweep moment) s = g.told (FrontEvent.Sweep moment) s
  entry_grows (ChangeTerms moment change) s = g.told (FrontEvent.ChangeTerms moment change) s

  pub GrowsByRequests-grows : (end : Ledger) → GrowsByRequests site past book end → GrowsByRequests site later book end
  GrowsByRequests-grows end b = record { more = b.more; grown = b.grown; taken = All-weaker (IsOfRequest site past) (IsOfRequest site later) entry_grows b.more b.taken }
