-- A run of a relay by the identifiers that it matches answers by, and what is promised of it besides (RFC 6733, sections 3 and 6.2).
use Rattle.std.specs.Prelude.{◌≡◌, true, false, List, [], ◌∷◌, ◌++◌, Some, MatchBool}
use Rattle.dia_base.specs.declared.number.ConnId.{ConnId}
use Rattle.dia_message.specs.declared.message.Message.{Message}
use Rattle.dia_message.specs.declared.message.Out.{Out}
use Rattle.dia_message.specs.Traffic.{Traffic}
use Rattle.relay_hops.specs.PendingTable.{under}
use Rattle.relay_core.specs.Acts.{Act, acts_of, last_sent}
use Rattle.relay_core.specs.Forwarding.{Descends}
use Rattle.relay_core.specs.AnswerMatching.{compares_end, drops_at}
use Rattle.relay_core.specs.Promise.{HasCome}
use Rattle.relay_core.specs.RelayRun.{OnEvent, RelayStep}
use Rattle.relay_core.specs.RelayState.{RelayState}
use Rattle.relay_core.specs.declared.matching.Matching.{Matching}
use Rattle.relay_core.specs.declared.run.RelayEvent.{RelayEvent}
use Rattle.relay_core.specs.declared.run.RelayEvent.TheVariants.{Received}

-- These events, and what was sent at each, have led from one relay to the other. The past has the steps, the last one first; an answer that is dropped is none of them.
pub data IsMatchedRun (matching : Matching) (first : RelayState) : List RelayEvent → List Out → List RelayStep → RelayState → Type 0 where
  not_begun : IsMatchedRun matching first [] [] [] first
  one_more : (events : List RelayEvent) (event : RelayEvent) (outs : List Out) (out : Out) (past : List RelayStep) (before after : RelayState) →
      IsMatchedRun matching first events outs past before → drops_at matching before event ≡ false → OnEvent before event out.items after →
      IsMatchedRun matching first (events ++ event ∷ []) (outs ++ out ∷ []) (record { before = before; event = event; sent = out.items; after = after } ∷ past) after
  one_dropped : (events : List RelayEvent) (event : RelayEvent) (outs : List Out) (out : Out) (past : List RelayStep) (before : RelayState) →
      IsMatchedRun matching first events outs past before → drops_at matching before event ≡ true → out.items ≡ [] →
      IsMatchedRun matching first (events ++ event ∷ []) (outs ++ out ∷ []) past before

-- An answer came on a connection, and this one goes out for it: the request that was last sent there under its Hop-by-Hop Identifier has its
-- End-to-End Identifier, and so has the request that this was sent for, which came on the connection that the answer goes to. The acts are those before.
pub record AnswersItsOwn (acts : List Act) (conn : ConnId) (came : Message) (to : ConnId) (answer : Message) : Type 0 where
  pub request : Message
  pub earlier : Message
  pub asked : HasCome acts to request
  pub last : last_sent conn came.header.hop acts ≡ Some earlier
  pub descends : Descends request earlier
  pub same : answer ≡ under request.header.hop came
  pub end : earlier.header.end ≡ answer.header.end
  pub end_asked : request.header.end ≡ answer.header.end

abbrev pub AnswersOwn : List Act → RelayStep → Type 0
AnswersOwn acts step = (conn to : ConnId) (came answer : Message) (rest : Traffic) → step.event ≡ Received conn came → came.header.request ≡ false
    → step.sent ≡ (to, answer) ∷ rest → AnswersItsOwn acts conn came to answer

-- each answer that goes back at these steps, the last one first, is one of its own request
abbrev pub AnswerOwn : List RelayStep → Type 0
AnswerOwn [] = Unit {0}
AnswerOwn (step ∷ past) = AnswersOwn (acts_of past) step × AnswerOwn past

-- A relay that compares End-to-End Identifiers promises that. One that does not promises nothing of them.
abbrev pub MatchesEnds : Matching → List RelayStep → Type 0
MatchesEnds matching past = MatchBool (compares_end matching) (AnswerOwn past) (Unit {0})
