-- What happens to a relay in a run of the farm, event by event: said of each step by the farm before it. And what the
-- relay does then.
use Rattle.std.specs.Prelude.{◌≡◌, ℕ, ◌+◌, Bool, true, false, not, ◌&&◌, ◌||◌, ◌==◌, List, [], ◌∷◌, ◌++◌, length, map, filter, filter_map, flat_map, Contains}
use Rattle.std.specs.Prelude.{Some, if◌then◌else◌}
use Rattle.std.specs.List.{list_any}
use Rattle.dia_base.specs.declared.number.ConnId.{ConnId}
use Rattle.dia_base.specs.declared.number.NodeNo.{NodeNo}
use Rattle.dia_message.specs.declared.message.Message.{Message}
use Rattle.dia_message.specs.declared.message.Out.{Out}
use Rattle.dia_message.specs.Traffic.{Traffic}
use Rattle.relay_core.specs.declared.run.RelayEvent.{RelayEvent}
use Rattle.relay_core.specs.declared.run.RelayEvent.TheVariants.{Received, Lost}
use Rattle.relay_core.specs.Connecting.{new_relay}
use Rattle.relay_core.specs.RelayRun.{IsRun, RelayStep}
use Rattle.relay_core.specs.RelayState.{RelayState}
use Rattle.farm_base.specs.declared.site.Site.{Site}
use Rattle.farm_model.specs.declared.state.Direction.{Direction}
use Rattle.farm_base.specs.declared.step.Step.{Step}
use Rattle.farm_base.specs.declared.step.Step.TheVariants.{Up, Accept, Opened, Deliver, Cut, Drop, Restart, Crash}
use Rattle.farm_model.specs.InFlight.{goes, ends_at, known_after, left_by, message_at}
use Rattle.farm_base.specs.Nodes.{is_node, is_linked}
use Rattle.farm_model.specs.Run.{Past, Transition, relay_site, start}
use Rattle.farm_model.specs.World.{WorldState, relay_at}

-- ---- at a step

abbrev pub event_if : Bool → RelayEvent → List RelayEvent
event_if happens event = if happens then event ∷ [] else []

-- two nodes that the site links, and that have no connection, get one
abbrev pub connects : Site → NodeNo → NodeNo → List Direction → Bool
connects site a b directions = is_linked site a b && not (list_any (goes a b) directions || list_any (goes b a) directions)

-- which each learns of the other, with its number: connections are numbered from 1 in the order in which they are made
abbrev pub up_events : NodeNo → NodeNo → NodeNo → ConnId → List RelayEvent
up_events node a b conn =
    event_if (is_node a node) (Rattle.relay_core.specs.declared.run.RelayEvent.TheVariants.Up b conn)
    ++ event_if (is_node b node) (Rattle.relay_core.specs.declared.run.RelayEvent.TheVariants.Up a conn)

-- the message at this place comes to the other node
abbrev pub received_events : NodeNo → NodeNo → ℕ → List Direction → List RelayEvent
received_events from to place directions = map (λ item. Received item.0 item.1)
    (filter_map (message_at place) (filter (λ direction. goes from to direction && direction.known) directions))

-- the node that has opened a connection with another one learns that it is made
abbrev pub opened_events : NodeNo → NodeNo → List Direction → List RelayEvent
opened_events a b directions = map (λ direction. Rattle.relay_core.specs.declared.run.RelayEvent.TheVariants.Up b direction.conn)
    (filter (λ direction. goes b a direction && not direction.known) directions)

-- the connections that the node knows, and drops or hears the end of
abbrev pub lost_events : Site → Step → NodeNo → List Direction → List RelayEvent
lost_events site step node directions =
    map (λ direction. Lost direction.conn)
    (filter (λ direction. ends_at site step directions direction && is_node direction.to node && direction.known) directions)

-- What happens to the node: one thing or nothing.
abbrev pub events_at : Site → NodeNo → Step → WorldState → List RelayEvent
events_at site node (Up a b) w = if connects site a b w.directions then up_events node a b (record { 0 = length w.ends + 1 }) else []
events_at site node (Accept at from) w = if connects site from at w.directions
    then event_if (is_node at node) (Rattle.relay_core.specs.declared.run.RelayEvent.TheVariants.Up from (record { 0 = length w.ends + 1 })) else []
events_at site node (Opened a b) w = if is_node a node then opened_events a b w.directions else []
events_at site node (Deliver from to place) w = if is_node to node then received_events from to place w.directions else []
events_at site node (Cut a b) w = lost_events site (Cut a b) node w.directions
events_at site node (Drop a b) w = lost_events site (Drop a b) node w.directions
-- the node itself begins anew, or another one
events_at site node (Restart other) w = if is_node other node then Rattle.relay_core.specs.declared.run.RelayEvent.TheVariants.Restart ∷ []
    else lost_events site (Restart other) node w.directions
events_at site node (Crash other) w = if is_node other node then Rattle.relay_core.specs.declared.run.RelayEvent.TheVariants.Restart ∷ [] else []
events_at site node step w = []

-- ---- in a run

-- what happens to the node in these transitions, one after the other
abbrev pub events_in : Site → NodeNo → Past → List RelayEvent
events_in site node past = flat_map (λ t. events_at site node t.step t.before) past

-- the farm that these transitions lead to
abbrev pub last_of : WorldState → Past → WorldState
last_of w [] = w
last_of w (t ∷ past) = last_of t.after past

-- ---- what it sends

-- what is sent on the connection, of messages with their connections
abbrev pub messages_on : ConnId → Traffic → List Message
messages_on conn items = map (λ item. item.1) (filter (λ item. conn.0 == item.0.0) items)

abbrev pub sent_on : ConnId → List Out → List Message
sent_on conn outs = flat_map (λ out. messages_on conn out.items) outs

-- On each connection of the node that stands on, this is put in flight behind what the step leaves there, and nothing
-- else.
abbrev pub PutsInFlight : Site → NodeNo → Transition → List Out → Type 0
PutsInFlight site node t outs = (direction : Direction) → Contains t.before.directions direction → is_node direction.from node ≡ true →
    ends_at site t.step t.before.directions direction ≡ false →
    Contains t.after.directions (record direction { known = known_after t.step direction; messages = left_by t.step direction ++ sent_on direction.conn outs })

-- so it is with what is sent at the events of each transition, one after the other
abbrev pub PutsAllInFlight : Site → NodeNo → Past → List Out → Type 0
PutsAllInFlight site node [] outs = outs ≡ []
PutsAllInFlight site node (t ∷ past) outs = (now : List Out) × (later : List Out) × (outs ≡ now ++ later) ×
    (length now ≡ length (events_at site node t.step t.before)) × PutsInFlight site node t now × PutsAllInFlight site node past later

-- From its first state to the one in which the transitions leave it, the relay has done at each thing that happened to
-- it what a relay does, and nothing else has changed it. What it sent then is what was put in flight on its connections.
-- So it keeps a relay's promise.
pub record RunsAsRelay (site : Site) (past : Past) (node : NodeNo) (name : List ℕ) : Type 0 where
  pub outs : List Out
  pub steps : List RelayStep
  pub last : RelayState
  pub run : IsRun (new_relay (relay_site site node name)) (events_in site node past) outs steps last
  pub stands : relay_at node (last_of (start site) past).relays ≡ Some last
  pub sends : PutsAllInFlight site node past outs
  pub promise : Rattle.relay_core.specs.Promise.KeepsPromise name site.realm steps
