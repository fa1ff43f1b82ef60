-- What a front promises over any list of events: whom it answers, and what each answer stands on.
use Rattle.std.specs.Prelude.{◌≡◌, ◌⊎◌, ℕ, ◌+◌, ◌≤◌, true, List, ◌++◌, take, All, Contains, Option, Some, None, Ok, slice_get}
use Rattle.std.specs.List.{filter_map, flat_map}
use Rattle.dia_base.specs.declared.number.ConnId.{ConnId}
use Rattle.dia_base.specs.declared.number.Moment.{Moment}
use Rattle.dia_message.specs.declared.message.Message.{Message}
use Rattle.cc_view.specs.declared.code.ResultCode.TheVariants.{TooBusy}
use Rattle.cc_view.specs.declared.refusal.Refusal.{Refusal}
use Rattle.cc_view.specs.Answer.{refusal_of}
use Rattle.cc_view.specs.Refusal.{refusal_with}
use Rattle.cc_view.specs.RequestView.{view_under}
use Rattle.cc_book.specs.declared.entry.Entry.{Entry}
use Rattle.cc_book.specs.declared.entry.Entry.TheVariants.{Take, Sweep, ChangeTerms}
use Rattle.cc_book.specs.Taking.{Ledger}
use Rattle.front_core.specs.declared.event.FrontEvent.{FrontEvent}
use Rattle.front_core.specs.declared.event.FrontEvent.TheVariants.{Charge, Refuse}
use Rattle.front_core.specs.declared.site.FrontSite.{FrontSite}
use Rattle.front_core.specs.declared.worker.Worker.TheVariants.{Picked}
use Rattle.front_core.specs.Answered.{IsBookAnswer}
use Rattle.front_core.specs.Cause.{ArrivalCause, ChargeCause}
use Rattle.front_core.specs.Counts.{requests_with, answers_with}
use Rattle.front_core.specs.FrontRun.{run_of}
use Rattle.front_core.specs.FrontState.{FrontState, is_among}
use Rattle.dia_message.specs.Traffic.{Traffic}

-- ---- what came, and what went out

abbrev pub message_at : FrontEvent → Option (ConnId × Message)
message_at (FrontEvent.Message conn message) = Some (conn, message)
message_at (FrontEvent.Up conn) = None
message_at (FrontEvent.Pick worker) = None
message_at (Charge worker moment) = None
message_at (Refuse worker) = None
message_at (FrontEvent.Emit worker) = None
message_at (FrontEvent.Sweep moment) = None
message_at (FrontEvent.ChangeTerms moment change) = None
message_at (FrontEvent.Lost conn) = None
message_at FrontEvent.Restart = None

-- the messages that came, each with its connection
abbrev pub traffic_of : List FrontEvent → Traffic
traffic_of events = filter_map message_at events

-- the messages that went out, each with its connection
abbrev pub all_sent : List Traffic → Traffic
all_sent sent = flat_map (λ items. items) sent

-- the message is a request that came on the connection (RFC 6733, section 3)
pub record IsAsked (events : List FrontEvent) (conn : ConnId) (message : Message) : Type 0 where
  pub came : Contains (traffic_of events) (conn, message)
  pub request : message.header.request ≡ true

-- ---- why a request is refused

-- A front and its book show at an event why a message of the connection is refused: it finds no place in the
-- queue, or the event charges what a worker picked, or refuses it by order.
pub data EventCause (front : FrontState) (ledger : Ledger) (conn : ConnId) (message : Message) : FrontEvent → Refusal → Type 0 where
  at_arrival :
      (refusal : Refusal) → is_among front.connections conn ≡ true → ArrivalCause front message refusal
      → EventCause front ledger conn message (FrontEvent.Message conn message) refusal
  at_charge :
      (worker : ℕ) (moment : Moment) (refusal : Refusal) → slice_get front.workers worker ≡ Some (Picked conn message)
      → ChargeCause front.site ledger message refusal → EventCause front ledger conn message (Charge worker moment) refusal
  by_order : (worker : ℕ) → slice_get front.workers worker ≡ Some (Picked conn message) → EventCause front ledger conn message (Refuse worker) (refusal_with TooBusy)

-- the event at some place of the list shows the cause, to the front and the book as the events before it left them
pub record HasCause (site : FrontSite) (book : Ledger) (events : List FrontEvent) (conn : ConnId) (message : Message) (refusal : Refusal) : Type 0 where
  pub place : ℕ
  pub event : FrontEvent
  pub at : slice_get events place ≡ Some event
  pub shown : let before = run_of site book (take place events) in EventCause before.front before.ledger conn message event refusal

-- ---- what is answered

-- the answer with the book's reply to a request that came on the connection
pub record AnswersRequest (site : FrontSite) (events : List FrontEvent) (book : Ledger) (conn : ConnId) (answer : Message) : Type 0 where
  pub message : Message
  pub asked : IsAsked events conn message
  pub answered : IsBookAnswer site book message answer

-- the refusal of a request that came on the connection, with its cause
pub record RefusesRequest (site : FrontSite) (book : Ledger) (events : List FrontEvent) (conn : ConnId) (answer : Message) : Type 0 where
  pub message : Message
  pub asked : IsAsked events conn message
  pub refusal : Refusal
  pub cause : HasCause site book events conn message refusal
  pub written : answer ≡ refusal_of site.name site.realm message refusal

-- what goes out on a connection, where the run began with one book and left another
abbrev pub IsRightAnswer : FrontSite → Ledger → List FrontEvent → Ledger → ConnId × Message → Type 0
IsRightAnswer site book events end item = AnswersRequest site events end item.0 item.1 ⊎ RefusesRequest site book events item.0 item.1

-- An entry takes what is read in a request that came, or is the sweep or the change of the terms of an event.
abbrev pub IsOfRequest : FrontSite → List FrontEvent → Entry → Type 0
IsOfRequest site events (Take moment request) = (conn : ConnId) × (message : Message) × IsAsked events conn message × (view_under site.profile message ≡ Ok request)
IsOfRequest site events (Sweep moment) = Contains events (FrontEvent.Sweep moment)
IsOfRequest site events (ChangeTerms moment change) = Contains events (FrontEvent.ChangeTerms moment change)

-- the book grows by requests that came and by sweeps and changes of the list, and by nothing else
pub record GrowsByRequests (site : FrontSite) (events : List FrontEvent) (book end : Ledger) : Type 0 where
  pub more : List Entry
  pub grown : end ≡ record book { history = book.history ++ more }
  pub taken : All (IsOfRequest site events) more

-- ---- the whole

-- what goes out at the event at a place: on a connection that was up, and a right answer by the events up to that one
pub record IsSentRightly (site : FrontSite) (book : Ledger) (events : List FrontEvent) (end : Ledger) (place : ℕ) (item : ConnId × Message) : Type 0 where
  pub up : is_among (run_of site book (take place events)).front.connections item.0 ≡ true
  pub right : IsRightAnswer site book (take (place + 1) events) end item

-- a fact for each message that goes out, by the place of its event
abbrev pub EachSent : (ℕ → ConnId × Message → Type 0) → List Traffic → Type 0
EachSent P sent = (place : ℕ) (items : Traffic) → slice_get sent place ≡ Some items → All (P place) items

-- What is promised of a run, from no connection and the book that is handed in: all that is sent is a right
-- answer, no more often than it was asked for, and the book grows by what was asked, by sweeps and by changes of the terms.
pub record KeepsPromise (site : FrontSite) (book : Ledger) (events : List FrontEvent) (sent : List Traffic) (end : Ledger) : Type 0 where
  pub answers : EachSent (IsSentRightly site book events end) sent
  pub not_more : (conn : ConnId) (hop end : ℕ) → answers_with (all_sent sent) conn hop end ≤ requests_with (traffic_of events) conn hop end
  pub grown : GrowsByRequests site events book end
