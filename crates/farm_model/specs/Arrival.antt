-- What a node does with a message that comes to it, and a relay with any event.
use Rattle.std.specs.Prelude.{◌≡◌, [], ◌∷◌, ◌++◌, Option, Some, None, MatchBool, if◌then◌else◌}
use Rattle.dia_base.specs.declared.number.ConnId.{ConnId}
use Rattle.dia_base.specs.declared.number.NodeNo.{NodeNo}
use Rattle.dia_message.specs.declared.message.Message.{Message}
use Rattle.dia_message.specs.Traffic.{Traffic}
use Rattle.front_core.specs.FrontState.{FrontState, is_among}
use Rattle.front_core.specs.FrontStep.{after_arrival, sent_at_arrival}
use Rattle.relay_core.specs.declared.run.RelayEvent.{RelayEvent}
use Rattle.relay_core.specs.declared.run.RelayEvent.TheVariants.{Received}
use Rattle.relay_core.specs.RelayRun.{OnEvent}
use Rattle.relay_core.specs.RelayState.{RelayState}
use Rattle.farm_base.specs.declared.site.Site.{Site}
use Rattle.farm_base.specs.Nodes.{is_client}
use Rattle.farm_model.specs.World.{WorldState, with_traffic_from, with_front, front_at, with_relay, relay_at}

-- ---- a relay

-- a relay changed, and what it sends joins the lists' ends
abbrev pub after_relay_turn : WorldState → NodeNo → Traffic → RelayState → WorldState
after_relay_turn w node sent relay = record w {
  directions = with_traffic_from node w.directions sent;
  relays = with_relay node relay w.relays;
}

-- the relay does one of the things that it may do at the event
pub record RelayTurn (w : WorldState) (node : NodeNo) (relay : RelayState) (event : RelayEvent) (next : WorldState) : Type 0 where
  pub sent : Traffic
  pub after : RelayState
  pub turn : OnEvent relay event sent after
  pub next_is : next ≡ after_relay_turn w node sent after

-- an event at a node that is a relay; at another one nothing happens
abbrev pub AtRelay : WorldState → NodeNo → RelayEvent → Option RelayState → WorldState → Type 0
AtRelay w node event None next = next ≡ w
AtRelay w node event (Some relay) next = RelayTurn w node relay event next

-- ---- a message comes

-- what a front sends joins the lists' ends
abbrev pub after_arrival_at_front : WorldState → NodeNo → ConnId → Message → FrontState → WorldState
after_arrival_at_front w node conn message front = record w {
  directions = with_traffic_from node w.directions (sent_at_arrival front conn message);
  fronts = with_front node (after_arrival front conn message) w.fronts;
}

-- a message on a connection that the front does not know is lost
abbrev pub after_arrival_by : WorldState → NodeNo → ConnId → Message → FrontState → WorldState
after_arrival_by w node conn message front = if is_among front.connections conn then after_arrival_at_front w node conn message front else w

abbrev pub after_arrival_at_client : WorldState → ConnId → Message → WorldState
after_arrival_at_client w conn message = record w { received = w.received ++ (conn, message) ∷ [] }

abbrev pub ArrivesAtServer : WorldState → NodeNo → ConnId → Message → Option FrontState → WorldState → Type 0
ArrivesAtServer w node conn message (Some front) next = next ≡ after_arrival_by w node conn message front
ArrivesAtServer w node conn message None next = AtRelay w node (Received conn message) (relay_at node w.relays) next

-- the farm after a message has come to a node on a connection
abbrev pub Arrives : Site → WorldState → NodeNo → ConnId → Message → WorldState → Type 0
Arrives site w node conn message next =
    MatchBool (is_client site node) (next ≡ after_arrival_at_client w conn message) (ArrivesAtServer w node conn message (front_at node w.fronts) next)
