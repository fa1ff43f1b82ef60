-- A run of a relay some of whose peers leave (RFC 6733, section 5.4).
use Rattle.std.specs.Prelude.{◌≡◌, true, false, List, [], ◌∷◌, ◌++◌, MatchBool}
use Rattle.dia_base.specs.declared.number.ConnId.{ConnId}
use Rattle.dia_message.specs.Traffic.{Traffic}
use Rattle.relay_peers.specs.declared.peers.Link.{Link}
use Rattle.relay_peers.specs.PeerTable.{without_conn}
use Rattle.relay_core.specs.AnswerMatching.{drops_at}
use Rattle.relay_core.specs.RelayRun.{IsIdle, RelayStep}
use Rattle.relay_core.specs.RelayState.{RelayState}
use Rattle.relay_core.specs.Staying.{OnEventAmong, staying_after}
use Rattle.relay_core.specs.declared.matching.Matching.{Matching}
use Rattle.relay_core.specs.declared.run.RelayEvent.{RelayEvent}

-- what happens to such a relay: what happens to every one, or that the peer on a connection says goodbye
pub data PartingEvent : Type 0 where
  happens : RelayEvent → PartingEvent
  leaves : ConnId → PartingEvent

-- What it sends at an event, and what it is afterwards: nothing and what it was, where it drops an answer.
abbrev pub OnPartingStep : Matching → List Link → RelayState → RelayEvent → Traffic → RelayState → Type 0
OnPartingStep matching staying relay event sent next = MatchBool (drops_at matching relay event) (IsIdle relay sent next) (OnEventAmong staying relay event sent next)

-- These events have led from one relay, of whose peers none is up, to the other, whose peers on these links stay. The past has the
-- steps, the last one first: an answer that is dropped is none of them, nor is a goodbye, which sends nothing and settles nothing.
pub data IsPartingRun (matching : Matching) (first : RelayState) : List PartingEvent → List RelayStep → RelayState → List Link → Type 0 where
  not_begun : IsPartingRun matching first [] [] first []
  one_more : (events : List PartingEvent) (event : RelayEvent) (sent : Traffic) (past : List RelayStep) (before after : RelayState) (staying : List Link) →
      IsPartingRun matching first events past before staying → drops_at matching before event ≡ false → OnEventAmong staying before event sent after →
      IsPartingRun matching first (events ++ happens event ∷ []) (record { before = before; event = event; sent = sent; after = after } ∷ past) after (staying_after before event staying)
  one_dropped : (events : List PartingEvent) (event : RelayEvent) (past : List RelayStep) (before : RelayState) (staying : List Link) →
      IsPartingRun matching first events past before staying → drops_at matching before event ≡ true →
      IsPartingRun matching first (events ++ happens event ∷ []) past before staying
  one_leaves : (events : List PartingEvent) (conn : ConnId) (past : List RelayStep) (before : RelayState) (staying : List Link) →
      IsPartingRun matching first events past before staying →
      IsPartingRun matching first (events ++ leaves conn ∷ []) past before (without_conn staying conn)
