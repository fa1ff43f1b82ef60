-- What a step does to what is in flight, and to what clients have sent and received: said of the directions before it
-- and after it.
use Rattle.std.specs.Prelude.{◌≡◌, ℕ, ◌≤◌, Bool, true, false, ◌&&◌, ◌||◌, ◌==◌, List, [], ◌∷◌, ◌++◌, map, filter, filter_map, count_by, Contains, Option}
use Rattle.std.specs.Prelude.{option_map, slice_get, remove, if◌then◌else◌}
use Rattle.std.specs.List.{list_any}
use Rattle.dia_base.specs.declared.number.ConnId.{ConnId}
use Rattle.dia_base.specs.declared.number.NodeNo.{NodeNo}
use Rattle.dia_message.specs.declared.message.Message.{Message}
use Rattle.dia_message.specs.Traffic.{Traffic}
use Rattle.farm_base.specs.declared.site.Site.{Site}
use Rattle.farm_model.specs.declared.state.Direction.{Direction}
use Rattle.farm_base.specs.declared.step.Step.{Step}
use Rattle.farm_base.specs.declared.step.Step.TheVariants.{Opened, Send, Deliver, Lose, Cut, Drop, Restart, Crash, Emit}
use Rattle.farm_base.specs.Nodes.{is_node, is_client, is_front, is_relay}
use Rattle.farm_model.specs.Run.{Transition}

-- ---- a direction

-- its messages go from the one node to the other
abbrev pub goes : NodeNo → NodeNo → Direction → Bool
goes from to direction = is_node direction.from from && is_node direction.to to

-- the node knows its connection with the other one
abbrev pub knows_other : List Direction → NodeNo → NodeNo → Bool
knows_other directions a b = list_any (λ direction. goes b a direction && direction.known) directions

-- The node that it goes to drops its connection at the step, or forgets it, where these directions stand: by itself, or
-- with the other node where the connection is cut, whichever of its nodes is named first, as long as one of them knows it.
-- A relay or a front that crashes does so with all of its connections, and one that begins anew with its peers.
abbrev pub ends_at : Site → Step → List Direction → Direction → Bool
ends_at site (Cut a b) directions direction = (knows_other directions a b || knows_other directions b a) && (goes a b direction || goes b a direction)
ends_at site (Drop a b) directions direction = goes b a direction
ends_at site (Restart node) directions direction =
    (is_relay site node || is_front site node) && (is_node direction.from node || is_node direction.to node)
ends_at site (Crash node) directions direction = (is_relay site node || is_front site node) && is_node direction.to node
ends_at site step directions direction = false

-- whether that node knows the connection after the step
abbrev pub known_after : Step → Direction → Bool
known_after (Opened a b) direction = goes b a direction || direction.known
known_after step direction = direction.known

-- what the step leaves of its messages: all but the one that is delivered or lost
abbrev pub left_by : Step → Direction → List Message
left_by (Deliver from to place) direction = if goes from to direction && direction.known then remove direction.messages place else direction.messages
left_by (Lose from to place) direction = if goes from to direction then remove direction.messages place else direction.messages
left_by step direction = direction.messages

-- A node may send in it at the step: a client that is told to, the node that a message is delivered to, a front that
-- emits, or, where connections end, one that learns it.
abbrev pub grows_at : Step → Direction → Bool
grows_at (Send client to message) direction = goes client to direction
grows_at (Deliver from to place) direction = is_node direction.from to
grows_at (Emit front worker) direction = is_node direction.from front
grows_at (Cut a b) direction = is_node direction.from a || is_node direction.from b
grows_at (Drop a b) direction = is_node direction.from a
grows_at (Restart node) direction = true
grows_at step direction = false

-- its message at this place
abbrev pub message_at : ℕ → Direction → Option (ConnId × Message)
message_at place direction = option_map (λ message. (direction.conn, message)) (slice_get direction.messages place)

-- ---- what clients send and receive at a step

-- a client's message, on its connection with the node
abbrev pub sent_at : Site → Step → List Direction → Traffic
sent_at site (Send client to message) directions = if is_client site client
    then map (λ direction. (direction.conn, message)) (filter (λ direction. goes to client direction && direction.known) directions) else []
sent_at site step directions = []

-- the message that is delivered to a client
abbrev pub received_at : Site → Step → List Direction → Traffic
received_at site (Deliver from to place) directions = if is_client site to then filter_map (message_at place)
    (filter (λ direction. goes from to direction && direction.known) directions) else []
received_at site step directions = []

-- ---- the whole

-- What is promised of each step.
pub record KeepsTraffic (site : Site) (t : Transition) : Type 0 where
  -- What is in flight stays so, in its order, until it is delivered or lost, or the node that it goes to drops its
  -- connection. Others come behind it only where a node may send.
  pub in_flight : (direction : Direction) → Contains t.before.directions direction → ends_at site t.step t.before.directions direction ≡ false →
      (more : List Message) × (grows_at t.step direction ≡ false → more ≡ []) ×
      Contains t.after.directions (record direction { known = known_after t.step direction; messages = left_by t.step direction ++ more })
  -- On a connection that comes up nothing is in flight.
  pub begun : (direction : Direction) → Contains t.after.directions direction →
      ((other : Direction) → Contains t.before.directions other → (other.conn.0 == direction.conn.0) ≡ false) → direction.messages ≡ []
  -- On one that a node drops nothing comes to it any more.
  pub ended : (direction other : Direction) → Contains t.before.directions direction → ends_at site t.step t.before.directions direction ≡ true →
      Contains t.after.directions other → (other.conn.0 == direction.conn.0 && is_node other.to direction.to) ≡ false
  -- Two nodes have one connection at most.
  pub one_each : (from to : NodeNo) → count_by (goes from to) t.after.directions ≤ 1
  -- What a client sends on a connection that it knows is in flight behind what was there, where the other node has not
  -- dropped it.
  pub posted : (client to : NodeNo) (message : Message) (direction : Direction) → t.step ≡ Send client to message → is_client site client ≡ true →
      knows_other t.before.directions client to ≡ true → Contains t.before.directions direction → goes client to direction ≡ true →
      Contains t.after.directions (record direction { messages = direction.messages ++ message ∷ [] })
  -- It is told as sent, and nothing else is.
  pub sent : t.after.sent ≡ t.before.sent ++ sent_at site t.step t.before.directions
  -- What is delivered to a client is received, and nothing else is.
  pub received : t.after.received ≡ t.before.received ++ received_at site t.step t.before.directions
