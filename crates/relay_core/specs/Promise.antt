-- What a relay promises over any list of events (RFC 6733, sections 5.5.4, 6.1 and 6.2).
use Rattle.std.specs.Prelude.{◌≡◌, ◌==◌, ℕ, ◌+◌, ◌≤◌, ◌&&◌, Bool, true, false, List, [], ◌∷◌, count_by, Option, Some, None, IsSome, MatchBool}
use Rattle.dia_base.specs.declared.number.ConnId.{ConnId}
use Rattle.dia_message.specs.declared.message.Message.{Message}
use Rattle.dia_message.specs.Traffic.{Traffic}
use Rattle.cc_view.specs.Answer.{refusal_of}
use Rattle.cc_view.specs.Refusal.{refusal_with}
use Rattle.cc_view.specs.declared.code.ResultCode.{ResultCode}
use Rattle.cc_view.specs.declared.code.ResultCode.TheVariants.{LoopDetected}
use Rattle.cc_view.specs.declared.refusal.Refusal.{Refusal}
use Rattle.relay_routes.specs.Routing.{IsLoop}
use Rattle.relay_hops.specs.declared.row.Origin.{Origin}
use Rattle.relay_hops.specs.declared.row.Row.{Row}
use Rattle.relay_hops.specs.PendingTable.{under, again}
use Rattle.relay_core.specs.declared.run.RelayEvent.{RelayEvent}
use Rattle.relay_core.specs.declared.run.RelayEvent.TheVariants.{Up, Received, Lost, Restart}
use Rattle.relay_core.specs.Acts.{Act, happened, sent, acts_of, IsAmong, is_in_use, last_event, before_event, last_sent, requests_in, answers_in}
use Rattle.relay_core.specs.Forwarding.{Descends}
use Rattle.relay_core.specs.RelayRun.{RelayStep}
use Rattle.relay_core.specs.RelayState.{RelayState, peer_on}
use Rattle.relay_core.specs.RelayStep.{refusal_to}

-- ---- a request that a relay sends

-- a request came on the connection
pub record HasCome (acts : List Act) (conn : ConnId) (request : Message) : Type 0 where
  pub among : IsAmong (happened (Received conn request)) acts
  pub flag : request.header.request ≡ true

-- the relay has just learned that the connection has ended
abbrev pub HasEnded : List Act → ConnId → Type 0
HasEnded acts lost = last_event acts ≡ Some (Lost lost)

-- Why a relay sends a request on a connection, by the acts before.
pub data RequestCause (acts : List Act) (to : ConnId) (message : Message) : Type 0 where
  -- a request has just come, it descends from that, and T stays
  forwarded : (conn : ConnId) (request : Message) (before : List Act) → acts ≡ happened (Received conn request) ∷ before → request.header.request ≡ true →
      Descends request message → message.header.resent ≡ request.header.resent → RequestCause acts to message
  -- another connection has just ended, on which it was sent before, the last one there under its identifier, and was not answered until then; T is set, and it descends from a request that came
  sent_again : (conn lost : ConnId) (request earlier : Message) → HasEnded acts lost → (to.0 == lost.0) ≡ false → HasCome acts conn request →
      last_sent lost earlier.header.hop acts ≡ Some earlier → is_in_use lost earlier.header.hop (before_event acts) ≡ true → message ≡ again message.header.hop earlier →
      Descends request message → message.header.resent ≡ true → RequestCause acts to message

-- ---- an answer that a relay sends

-- Why a relay of this name and realm sends an answer on a connection, by the acts before.
pub data AnswerCause (name realm : List ℕ) (acts : List Act) (to : ConnId) (answer : Message) : Type 0 where
  -- An answer has just come, and the last request that went out under its identifier where it came from, which was not answered before, was sent for a request that came there: but for the identifier of that it is unchanged.
  sent_back : (conn : ConnId) (came request earlier : Message) (before : List Act) → acts ≡ happened (Received conn came) ∷ before →
      HasCome before to request → last_sent conn came.header.hop before ≡ Some earlier → is_in_use conn came.header.hop before ≡ true → Descends request earlier →
      answer ≡ under request.header.hop came → AnswerCause name realm acts to answer
  -- a request has just come there, and is refused
  refused : (request : Message) (refusal : Refusal) (before : List Act) → acts ≡ happened (Received to request) ∷ before → request.header.request ≡ true →
      answer ≡ refusal_of name realm request refusal → AnswerCause name realm acts to answer
  -- a connection has just ended, and what was sent on it for a request that came there, and was not answered until then, goes nowhere any more
  given_up : (lost : ConnId) (request earlier : Message) (code : ResultCode) → HasEnded acts lost → HasCome acts to request → last_sent lost earlier.header.hop acts ≡ Some earlier →
      is_in_use lost earlier.header.hop (before_event acts) ≡ true → Descends request earlier →
      answer ≡ under request.header.hop (refusal_of name realm earlier (refusal_with code)) → AnswerCause name realm acts to answer

-- ---- a connection that ends

-- The message goes out for a request that was sent before: it is that again, or its refusal.
pub data IsFor (name realm : List ℕ) (earlier message : Message) : Type 0 where
  sent_again : message ≡ again message.header.hop earlier → IsFor name realm earlier message
  given_up : (code : ResultCode) → message ≡ under message.header.hop (refusal_of name realm earlier (refusal_with code)) → IsFor name realm earlier message

-- Each of these messages goes out for another request that was sent on the connection, and was not answered by these acts: under identifiers that rise, from this one on.
pub data EachForAnother (name realm : List ℕ) (acts : List Act) (lost : ConnId) : ℕ → Traffic → Type 0 where
  none_more : (least : ℕ) → EachForAnother name realm acts lost least []
  one_more : (least hop : ℕ) (earlier : Message) (to : ConnId) (message : Message) (items : Traffic) → least ≤ hop → is_in_use lost hop acts ≡ true → last_sent lost hop acts ≡ Some earlier →
      IsFor name realm earlier message → EachForAnother name realm acts lost (hop + 1) items → EachForAnother name realm acts lost least ((to, message) ∷ items)

-- When a connection has ended, no request that was sent on it goes out twice, is given up twice, or both (5.5.4). The acts are those before.
abbrev pub FailsOverOnce : List ℕ → List ℕ → List Act → RelayStep → Type 0
FailsOverOnce name realm acts step = (lost : ConnId) → step.event ≡ Lost lost → EachForAnother name realm acts lost 0 step.sent

abbrev pub FailOverOnce : List ℕ → List ℕ → List RelayStep → Type 0
FailOverOnce name realm [] = Unit {0}
FailOverOnce name realm (step ∷ past) = FailsOverOnce name realm (acts_of past) step × FailOverOnce name realm past

-- ---- no request is lost

-- a request came on the connection under the identifier
abbrev pub comes_from : ConnId → ℕ → Option Origin → Bool
comes_from to hop None = false
comes_from to hop (Some origin) = (origin.conn.0 == to.0) && (origin.hop == hop)

abbrev pub is_from : ConnId → ℕ → Row → Bool
is_from to hop row = comes_from to hop row.held.origin

-- how many requests that came so the relay has sent, and awaits the answers of
abbrev pub waiting_in : ConnId → ℕ → RelayState → ℕ
waiting_in to hop relay = count_by (is_from to hop) relay.pending.rows

-- at the event what came on the connection is forgotten: the connection ends, or the relay begins anew
abbrev pub forgets : ConnId → RelayEvent → Bool
forgets conn (Up peer other) = false
forgets conn (Received other message) = false
forgets conn (Lost lost) = lost.0 == conn.0
forgets conn Restart = true

-- A request that comes on the connection of a peer that is up is answered at once or waits, and what waits there is answered or waits on, counted by connection and identifier. Only the end of that connection forgets it, or a restart.
abbrev pub LosesNoRequest : RelayStep → Type 0
LosesNoRequest step = (conn : ConnId) (hop : ℕ) → IsSome (peer_on step.before.node conn) → forgets conn step.event ≡ false →
    waiting_in conn hop step.after + answers_in conn hop (acts_of (step ∷ [])) ≡ waiting_in conn hop step.before + requests_in conn hop (acts_of (step ∷ []))

abbrev pub LoseNoRequests : List RelayStep → Type 0
LoseNoRequests [] = Unit {0}
LoseNoRequests (step ∷ past) = LosesNoRequest step × LoseNoRequests past

-- ---- the promise

-- A request that is sent has its cause, and its identifier is not in use there. An answer has its cause.
abbrev pub IsRightAct : List ℕ → List ℕ → List Act → Act → Type 0
IsRightAct name realm acts (happened event) = Unit {0}
IsRightAct name realm acts (sent conn message) =
    MatchBool message.header.request (RequestCause acts conn message × (is_in_use conn message.header.hop acts ≡ false)) (AnswerCause name realm acts conn message)

-- each act is right by those before it
abbrev pub AreRightActs : List ℕ → List ℕ → List Act → Type 0
AreRightActs name realm [] = Unit {0}
AreRightActs name realm (act ∷ acts) = IsRightAct name realm acts act × AreRightActs name realm acts

-- A request in which the relay finds itself, from a peer that is up, is answered DIAMETER_LOOP_DETECTED there, and nothing else happens (6.1.3).
abbrev pub RefusesLoop : RelayStep → Type 0
RefusesLoop step = (conn : ConnId) (request : Message) → step.event ≡ Received conn request → request.header.request ≡ true → IsSome (peer_on step.before.node conn) →
    IsLoop step.before.node.name request.body → (step.sent ≡ refusal_to step.before.node conn request (refusal_with LoopDetected)) × (step.after ≡ step.before)

abbrev pub RefusesLoops : List RelayStep → Type 0
RefusesLoops [] = Unit {0}
RefusesLoops (step ∷ past) = RefusesLoop step × RefusesLoops past

-- What a relay of this name and realm promises of the steps of a run, of which the last one stands first.
pub record KeepsPromise (name realm : List ℕ) (past : List RelayStep) : Type 0 where
  -- each message that is sent has its cause, and no identifier in use is given to another request
  pub right : AreRightActs name realm (acts_of past)
  -- on each connection no more answers go out under an identifier than requests came with it
  pub once : (conn : ConnId) (hop : ℕ) → answers_in conn hop (acts_of past) ≤ requests_in conn hop (acts_of past)
  -- where a connection has ended, each request that was sent on it goes out again, or is given up, at most once
  pub failovers : FailOverOnce name realm past
  -- each request waits for its answer until it is answered
  pub waits : LoseNoRequests past
  pub loops : RefusesLoops past
