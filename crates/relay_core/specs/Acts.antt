-- A run of a relay as one list of acts, what came and what was sent, the last one first; and what can be counted in it.
use Rattle.std.specs.Prelude.{◌≡◌, ℕ, ◌+◌, ◌==◌, ◌&&◌, ◌||◌, not, Bool, true, false, List, [], ◌∷◌, ◌⊎◌, Option, Some, None, if◌then◌else◌}
use Rattle.dia_base.specs.declared.number.ConnId.{ConnId}
use Rattle.dia_message.specs.declared.message.Message.{Message}
use Rattle.dia_message.specs.Traffic.{Traffic}
use Rattle.relay_core.specs.declared.run.RelayEvent.{RelayEvent}
use Rattle.relay_core.specs.declared.run.RelayEvent.TheVariants.{Up, Received, Lost, Restart}
use Rattle.relay_core.specs.RelayRun.{RelayStep}

pub data Act : Type 0 where
  happened : RelayEvent → Act
  sent : ConnId → Message → Act

-- the acts before, and then what was sent, in order
abbrev pub acts_with : Traffic → List Act → List Act
acts_with [] acts = acts
acts_with (item ∷ items) acts = acts_with items (sent item.0 item.1 ∷ acts)

-- the acts of steps, of which the last one stands first
abbrev pub acts_of : List RelayStep → List Act
acts_of [] = []
acts_of (step ∷ past) = acts_with step.sent (happened step.event ∷ acts_of past)

-- the act is one of these
abbrev pub IsAmong : Act → List Act → Type 0
IsAmong act [] = ⊥
IsAmong act (other ∷ acts) = (other ≡ act) ⊎ IsAmong act acts

-- a message on the connection under the identifier
abbrev pub is_under : ConnId → ℕ → ConnId → Message → Bool
is_under to hop conn message = (conn.0 == to.0) && (message.header.hop == hop)

-- ---- identifiers in use

-- an answer under the identifier comes on the connection, or the connection ends
abbrev pub ends : ConnId → ℕ → RelayEvent → Bool
ends to hop (Up peer conn) = false
ends to hop (Received conn message) = not message.header.request && is_under to hop conn message
ends to hop (Lost conn) = conn.0 == to.0
ends to hop Restart = true

-- a request went out on the connection under the identifier, and since then neither came its answer nor did the connection end
abbrev pub is_in_use : ConnId → ℕ → List Act → Bool
is_in_use to hop [] = false
is_in_use to hop (happened event ∷ acts) = not (ends to hop event) && is_in_use to hop acts
is_in_use to hop (sent conn message ∷ acts) = (message.header.request && is_under to hop conn message) || is_in_use to hop acts

-- the event that happened last
abbrev pub last_event : List Act → Option RelayEvent
last_event [] = None
last_event (happened event ∷ acts) = Some event
last_event (sent conn message ∷ acts) = last_event acts

-- the acts before that event
abbrev pub before_event : List Act → List Act
before_event [] = []
before_event (happened event ∷ acts) = acts
before_event (sent conn message ∷ acts) = before_event acts

-- the last request that went out on the connection under the identifier
abbrev pub last_sent : ConnId → ℕ → List Act → Option Message
last_sent to hop [] = None
last_sent to hop (happened event ∷ acts) = last_sent to hop acts
last_sent to hop (sent conn message ∷ acts) = if message.header.request && is_under to hop conn message then Some message else last_sent to hop acts

-- ---- requests and answers

abbrev pub one : Bool → ℕ
one b = if b then 1 else 0

-- a request comes on the connection under the identifier
abbrev pub is_asked : ConnId → ℕ → RelayEvent → Bool
is_asked to hop (Up peer conn) = false
is_asked to hop (Received conn message) = message.header.request && is_under to hop conn message
is_asked to hop (Lost conn) = false
is_asked to hop Restart = false

-- how many requests came on the connection under the identifier
abbrev pub requests_in : ConnId → ℕ → List Act → ℕ
requests_in to hop [] = 0
requests_in to hop (happened event ∷ acts) = one (is_asked to hop event) + requests_in to hop acts
requests_in to hop (sent conn message ∷ acts) = requests_in to hop acts

-- how many answers were sent there under it
abbrev pub answers_in : ConnId → ℕ → List Act → ℕ
answers_in to hop [] = 0
answers_in to hop (happened event ∷ acts) = answers_in to hop acts
answers_in to hop (sent conn message ∷ acts) = one (not message.header.request && is_under to hop conn message) + answers_in to hop acts
