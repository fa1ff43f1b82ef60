-- What is counted of what a node is told and of what it sends.
use Rattle.std.specs.Prelude.{◌≡◌, ◌<◌, ℕ, Bool, true, false, List, [], ◌∷◌, ◌++◌, length, slice_index_or, Result, MatchBool, OnErr, OnOk, if◌then◌else◌}
use Rattle.std.specs.List.{fold}
use Rattle.dia_base.specs.declared.number.ConnId.{ConnId}
use Rattle.dia_message.specs.declared.message.Message.{Message}
use Rattle.dia_message.specs.Traffic.{Traffic}
use Rattle.farm_metrics.specs.Reading.{code_of}
use Rattle.farm_metrics.specs.Tallying.{AnswerSent, Came, ComesUp, IsLost, with_dial_failure, with_failover, with_given_up, with_refused, with_sent}
use Rattle.farm_metrics.specs.declared.tally.Tally.{Tally}
use Rattle.farm_node.specs.Events.{NodeEvent, up, message, leaving, lost, tick, wake}
use Rattle.farm_node.specs.declared.error.NodeError.{NodeError}
use Rattle.farm_connections.specs.declared.end.End.{End}
use Rattle.farm_connections.specs.declared.end.End.TheVariants.{Silent}
use Rattle.farm_connections.specs.declared.end.Ended.{Ended}
use Rattle.farm_connections.specs.declared.link.Link.{Link}
use Rattle.farm_connections.specs.declared.link.Standing.{Standing}
use Rattle.farm_connections.specs.declared.link.Standing.TheVariants.{Waiting, Up, Over}

-- the other end was silent
abbrev pub is_silence : End → Bool
is_silence Silent = true
is_silence _ = false

-- Where a connection is lost, a request was sent again, and an answer is one to a request that was given up.
abbrev pub with_resent : Tally → ConnId × Message → Tally
with_resent tally item = if item.1.header.request then with_failover tally else with_given_up tally

-- ---- what a node is told, and what it sends for that

-- A message came on a connection: a request is counted, and an answer is not.
abbrev pub CountsCome : ConnId → Message → Tally → Tally → Type 0
CountsCome conn m old new = MatchBool m.header.request (Came conn m.header.hop old new) (new ≡ old)

-- The node has sent a message on a connection: a request, or an answer.
abbrev pub CountsSent : ConnId → Message → Tally → Tally → Type 0
CountsSent conn m old new = MatchBool m.header.request (new ≡ with_sent old) (AnswerSent conn m.header.hop (code_of m.body) old new)

-- It has sent these messages, one after the other: each is counted once, and nothing else is.
pub data CountsAll (first : Tally) : Traffic → Tally → Type 0 where
  counts_none : CountsAll first [] first
  counts_more : (sent : Traffic) (mid new : Tally) (conn : ConnId) (m : Message) → CountsAll first sent mid → CountsSent conn m mid new
      → CountsAll first (sent ++ (conn, m) ∷ []) new

-- A connection is lost, since its other end was silent or not: that is counted, and which requests are sent again or given up for it.
pub record CountsLoss (conn : ConnId) (sent : Traffic) (old new : Tally) : Type 0 where
  pub is_silent : Bool
  pub mid : Tally
  pub loses : IsLost conn is_silent old mid
  pub again : new ≡ fold with_resent mid sent

-- The node was told this, did it or refused it, and sends this for it: what is counted of the event itself. A node that is refused does not come up.
abbrev pub CountsTold : NodeEvent → Result (Unit {0}) NodeError → Traffic → Tally → Tally → Type 0
CountsTold (up local peer conn) outcome sent old new = OnOk outcome (ComesUp conn local peer old new) × OnErr outcome (new ≡ old)
CountsTold (message conn m) outcome sent old new = CountsCome conn m old new
CountsTold (leaving conn) outcome sent old new = new ≡ old
CountsTold (lost conn) outcome sent old new = CountsLoss conn sent old new
CountsTold (tick moment) outcome sent old new = new ≡ old
CountsTold wake outcome sent old new = new ≡ old

-- The event is counted, and then each message that is sent for it; nothing else is.
pub record Counts (event : NodeEvent) (outcome : Result (Unit {0}) NodeError) (sent : Traffic) (old new : Tally) : Type 0 where
  pub mid : Tally
  pub told : CountsTold event outcome sent old mid
  pub sends : CountsAll mid sent new

-- ---- what is let go

-- A connection is let go, which somebody else has made or the node itself. It counts where nobody was ever up on it.
abbrev pub let_go : Bool → Standing → Tally → Tally
let_go accepted Waiting tally = if accepted then with_refused tally else with_dial_failure tally
let_go accepted (Up peer) tally = tally
let_go accepted (Over peer) tally = tally

-- The end of one of these connections was counted once.
pub record IsLetGo {R W : Type 0} (links : List (Link R W)) (old new : Tally) (ended : Ended R W) : Type 0 where
  pub place : ℕ
  pub link : Link R W
  pub there : place < length links
  pub at : link ≡ slice_index_or links place link
  pub is_of : ended.conn ≡ link.id
  pub counts : new ≡ let_go link.accepted link.standing old
