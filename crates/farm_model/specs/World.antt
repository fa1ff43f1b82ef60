-- The farm between two steps.
use Rattle.std.specs.Prelude.{Bool, not, ◌&&◌, ◌||◌, ◌==◌, List, [], ◌∷◌, ◌++◌, filter, Option, Some, None, option_map, if◌then◌else◌}
use Rattle.std.specs.List.{find, list_any}
use Rattle.dia_base.specs.declared.number.ConnId.{ConnId}
use Rattle.dia_base.specs.declared.number.NodeNo.{NodeNo}
use Rattle.dia_message.specs.declared.message.Message.{Message}
use Rattle.dia_message.specs.Traffic.{Traffic}
use Rattle.cc_book.specs.Taking.{Ledger}
use Rattle.front_core.specs.FrontState.{FrontState}
use Rattle.relay_core.specs.RelayState.{RelayState}
use Rattle.farm_model.specs.declared.state.Direction.{Direction}
use Rattle.farm_model.specs.declared.state.FrontAt.{FrontAt}
use Rattle.farm_model.specs.declared.state.RelayAt.{RelayAt}
use Rattle.farm_base.specs.Lists.{replace_first}
use Rattle.farm_base.specs.Nodes.{is_node}

-- the two nodes of each connection that was made; connections are numbered from 1
abbrev pub Ends : Type 0
Ends = List (NodeNo × NodeNo)

pub record WorldState : Type 0 where
  -- for each connection those that go to a node which has not dropped it
  pub directions : List Direction
  pub fronts : List FrontAt
  pub relays : List RelayAt
  pub book : Ledger
  -- what clients have sent and received
  pub sent : Traffic
  pub received : Traffic
  pub ends : Ends

-- ---- connections

-- whether messages go from the one node to the other
abbrev pub is_between : NodeNo → NodeNo → Direction → Bool
is_between from to direction = is_node direction.from from && is_node direction.to to

-- whether a direction is of a connection
abbrev pub is_on : ConnId → Direction → Bool
is_on conn direction = direction.conn.0 == conn.0

-- whether a node's messages on a connection go in this direction
abbrev pub is_outward : NodeNo → ConnId → Direction → Bool
is_outward node conn direction = is_node direction.from node && is_on conn direction

-- whether a node's messages on a connection come in this direction
abbrev pub is_inward : NodeNo → ConnId → Direction → Bool
is_inward node conn direction = is_node direction.to node && is_on conn direction

-- whether messages go from the one node to the other, which knows the connection, or does not yet
abbrev pub is_heard : NodeNo → NodeNo → Direction → Bool
is_heard from to direction = is_between from to direction && direction.known

abbrev pub is_unheard : NodeNo → NodeNo → Direction → Bool
is_unheard from to direction = is_between from to direction && not direction.known

-- the two have a connection, which one of them at least has not dropped
abbrev pub is_connected : List Direction → NodeNo → NodeNo → Bool
is_connected directions a b = list_any (is_between a b) directions || list_any (is_between b a) directions

-- the node knows a connection with the other one
abbrev pub knows : List Direction → NodeNo → NodeNo → Bool
knows directions a b = list_any (is_heard b a) directions

-- which one
abbrev pub conn_known : List Direction → NodeNo → NodeNo → Option ConnId
conn_known directions a b = option_map (λ direction. direction.conn) (find (is_heard b a) directions)

-- the directions but for the one to a node on a connection, with what is in flight in it
abbrev pub without_end : NodeNo → ConnId → List Direction → List Direction
without_end node conn directions = filter (λ direction. not (is_inward node conn direction)) directions

-- without what is in flight between two nodes
abbrev pub emptied : NodeNo → NodeNo → Direction → Direction
emptied a b direction = if is_between a b direction || is_between b a direction then record direction { messages = [] } else direction

-- one more message in flight
abbrev pub with_message : Message → Direction → Direction
with_message message direction = record direction { messages = direction.messages ++ message ∷ [] }

-- one more message in flight in the first direction that passes; where none does, the message is lost
abbrev pub with_message_in : (Direction → Bool) → Message → List Direction → Option Direction → List Direction
with_message_in test message directions None = directions
with_message_in test message directions (Some direction) = replace_first test (with_message message direction) directions

-- a message that a node sends on a connection joins the list of its direction
abbrev pub with_message_from : NodeNo → List Direction → ConnId → Message → List Direction
with_message_from node directions conn message = with_message_in (is_outward node conn) message directions (find (is_outward node conn) directions)

-- what a node sends, one message after the other
abbrev pub with_traffic_from : NodeNo → List Direction → Traffic → List Direction
with_traffic_from node directions [] = directions
with_traffic_from node directions (item ∷ items) = with_traffic_from node (with_message_from node directions item.0 item.1) items

-- ---- fronts and relays

abbrev pub is_front_at : NodeNo → FrontAt → Bool
is_front_at node at = is_node at.node node

-- a front changed
abbrev pub with_front : NodeNo → FrontState → List FrontAt → List FrontAt
with_front node front fronts = replace_first (is_front_at node) (record { node = node; front = front }) fronts

abbrev pub front_at : NodeNo → List FrontAt → Option FrontState
front_at node fronts = option_map (λ at. at.front) (find (is_front_at node) fronts)

abbrev pub is_relay_at : NodeNo → RelayAt → Bool
is_relay_at node at = is_node at.node node

-- a relay changed
abbrev pub with_relay : NodeNo → RelayState → List RelayAt → List RelayAt
with_relay node relay relays = replace_first (is_relay_at node) (record { node = node; relay = relay }) relays

abbrev pub relay_at : NodeNo → List RelayAt → Option RelayState
relay_at node relays = option_map (λ at. at.relay) (find (is_relay_at node) relays)
