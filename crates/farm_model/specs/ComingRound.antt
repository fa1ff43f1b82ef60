-- The way of a request that a relay has sent, from one node to the next, by the transitions of a run.
use Rattle.std.specs.Prelude.{◌≡◌, ℕ, ◌++◌, true, List, Contains, Some}
use Rattle.dia_base.specs.declared.number.ConnId.{ConnId}
use Rattle.dia_base.specs.declared.number.NodeNo.{NodeNo}
use Rattle.dia_message.specs.declared.message.Message.{Message}
use Rattle.relay_hops.specs.PendingTable.{again}
use Rattle.farm_base.specs.declared.site.Site.{Site}
use Rattle.farm_model.specs.declared.state.Direction.{Direction}
use Rattle.farm_base.specs.declared.step.Step.TheVariants.{Deliver}
use Rattle.farm_model.specs.FarmStep.{flight_at}
use Rattle.farm_model.specs.InFlight.{goes, left_by}
use Rattle.farm_base.specs.Nodes.{is_relay}
use Rattle.farm_model.specs.Run.{Past, Transition}

-- the step delivers the message, which the one node sent, to the other
pub record DeliversTo (t : Transition) (from to : NodeNo) (message : Message) : Type 0 where
  pub place : ℕ
  pub conn : ConnId
  pub directions : List Direction
  pub step : t.step ≡ Deliver from to place
  pub flight : flight_at t.before.directions from to place ≡ Some (record { conn = conn; message = message; directions = directions })

-- at the step the one node sends the request to the other: it comes behind what the step leaves in flight there
pub record SendsTo (t : Transition) (from to : NodeNo) (request : Message) : Type 0 where
  pub flag : request.header.request ≡ true
  pub direction : Direction
  pub stood : Contains t.before.directions direction
  pub between : goes from to direction ≡ true
  pub behind : List Message
  pub among : Contains behind request
  pub in_flight : Contains t.after.directions (record direction { messages = left_by t.step direction ++ behind })

-- How far a request that the relay sent has gone by these transitions: the one node has sent it to the other, as this message.
pub data HasGone (site : Site) (past : Past) (relay : NodeNo) : NodeNo → NodeNo → Message → Type 0 where
  -- The relay sends it.
  sets_out : (t : Transition) (to : NodeNo) (request : Message) → Contains past t → SendsTo t relay to request → HasGone site past relay relay to request
  -- It is delivered to a relay, which sends a request then.
  goes_on : (t : Transition) (from by to : NodeNo) (request next : Message) → HasGone site past relay from by request → Contains past t →
      DeliversTo t from by request → is_relay site by ≡ true → SendsTo t by to next → HasGone site past relay by to next
  -- Who sent it sends it again, to whomever: with T set, under any identifier (RFC 6733, section 5.5.4).
  goes_again : (t : Transition) (by to other : NodeNo) (request : Message) (hop : ℕ) → HasGone site past relay by to request → Contains past t →
      SendsTo t by other (again hop request) → HasGone site past relay by other (again hop request)

-- a request that the relay sent in this run has come to it again
abbrev pub HasComeRound : Site → Past → NodeNo → Message → Type 0
HasComeRound site past relay message = (from : NodeNo) × HasGone site past relay from relay message
