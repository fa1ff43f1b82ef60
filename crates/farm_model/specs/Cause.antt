-- Why a request was refused: what the farm shows at a step.
use Rattle.std.specs.Prelude.{◌≡◌, ◌==◌, ℕ, true, false, List, Contains, Some, Err, slice_get}
use Rattle.dia_base.specs.declared.number.ConnId.{ConnId}
use Rattle.dia_base.specs.declared.number.Moment.{Moment}
use Rattle.dia_base.specs.declared.number.NodeNo.{NodeNo}
use Rattle.dia_message.specs.declared.message.Message.{Message}
use Rattle.cc_view.specs.declared.code.ResultCode.{ResultCode}
use Rattle.cc_view.specs.declared.code.ResultCode.TheVariants.{TooBusy}
use Rattle.cc_view.specs.declared.refusal.Refusal.{Refusal}
use Rattle.cc_view.specs.Refusal.{refusal_with}
use Rattle.front_core.specs.declared.worker.Worker.TheVariants.{Picked}
use Rattle.front_core.specs.FrontState.{FrontState}
use Rattle.front_core.specs.Cause.{ArrivalCause, ChargeCause}
use Rattle.relay_peers.specs.declared.peers.LinkedPeer.{LinkedPeer}
use Rattle.relay_hops.specs.declared.row.Origin.{Origin}
use Rattle.relay_hops.specs.declared.row.Row.{Row}
use Rattle.relay_core.specs.Failover.{next_hop_again, after_end}
use Rattle.relay_core.specs.RelayState.{RelayState, peer_on}
use Rattle.relay_core.specs.Verdict.{decision}
use Rattle.farm_model.specs.declared.state.Direction.{Direction}
use Rattle.farm_base.specs.declared.step.Step.TheVariants.{Charge, Deliver, Refuse}
use Rattle.farm_model.specs.FarmStep.{flight_at}
use Rattle.farm_model.specs.Run.{Transition}
use Rattle.farm_model.specs.World.{WorldState, front_at, relay_at}

-- the step delivers a message of the connection to the node
pub record IsDelivered (t : Transition) (node : NodeNo) (conn : ConnId) (message : Message) : Type 0 where
  pub from : NodeNo
  pub place : ℕ
  pub directions : List Direction
  pub step : t.step ≡ Deliver from node place
  pub flight : flight_at t.before.directions from node place ≡ Some (record { conn = conn; message = message; directions = directions })

-- a worker of a front has picked a message of the connection
pub record IsPicked (front : FrontState) (worker : ℕ) (conn : ConnId) (message : Message) : Type 0 where
  pub held : slice_get front.workers worker ≡ Some (Picked conn message)

-- a relay learns that a connection has ended on which it had sent a request, for one whose own connection stands
pub record IsStranded (relay : RelayState) (conn : ConnId) (message : Message) : Type 0 where
  pub row : Row
  pub among : Contains relay.pending.rows row
  pub on : row.conn ≡ conn
  pub request : row.held.request ≡ message
  pub origin : Origin
  pub origin_is : row.held.origin ≡ Some origin
  pub stands : (origin.conn.0 == conn.0) ≡ false

-- The node has a cause to refuse a message that stands at it on the connection.
pub data HasCause (t : Transition) (node : NodeNo) (conn : ConnId) (message : Message) : Refusal → Type 0 where
  -- it comes to a front, which finds no place for it
  at_front : (front : FrontState) (refusal : Refusal) → IsDelivered t node conn message → front_at node t.before.fronts ≡ Some front →
      ArrivalCause front message refusal → HasCause t node conn message refusal
  -- a front charges it
  at_charge : (worker : ℕ) (moment : Moment) (front : FrontState) (refusal : Refusal) → t.step ≡ Charge node worker moment →
      front_at node t.before.fronts ≡ Some front → IsPicked front worker conn message →
      ChargeCause front.site t.before.book message refusal → HasCause t node conn message refusal
  -- a front refuses it by order
  by_order : (worker : ℕ) (front : FrontState) → t.step ≡ Refuse node worker → front_at node t.before.fronts ≡ Some front →
      IsPicked front worker conn message → HasCause t node conn message (refusal_with TooBusy)
  -- it comes to a relay, whose rules refuse it
  at_relay : (relay : RelayState) (sender : LinkedPeer) (refusal : Refusal) → IsDelivered t node conn message → message.header.request ≡ true →
      relay_at node t.before.relays ≡ Some relay → peer_on relay.node conn ≡ Some sender →
      decision relay sender.name message ≡ Err refusal → HasCause t node conn message refusal
  -- a relay has lost the connection on which it had sent it, and it can go nowhere else
  at_lost_link : (w : WorldState) (relay : RelayState) (code : ResultCode) →
      Contains t.losses (record { loss = record { node = node; conn = conn }; before = w }) →
      relay_at node w.relays ≡ Some relay → IsStranded relay conn message →
      next_hop_again (after_end conn relay.node) message ≡ Err code → HasCause t node conn message (refusal_with code)
