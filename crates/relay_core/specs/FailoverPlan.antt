-- What is prepared before a relay gives up a connection: for each request that was sent on it, what is to be sent for it.
use Rattle.std.specs.Prelude.{◌≡◌, ℕ, true, List, map, Option, Some, None, Result, Ok, Err}
use Rattle.std.specs.List.{AllByRecursion}
use Rattle.dia_base.specs.declared.number.ConnId.{ConnId}
use Rattle.dia_message.specs.declared.message.Message.{Message}
use Rattle.cc_view.specs.declared.code.ResultCode.{ResultCode}
use Rattle.cc_view.specs.Answer.{refusal_of}
use Rattle.cc_view.specs.Refusal.{refusal_with}
use Rattle.relay_hops.specs.declared.row.Held.{Held}
use Rattle.relay_hops.specs.declared.row.Origin.{Origin}
use Rattle.relay_hops.specs.declared.row.Row.{Row}
use Rattle.relay_hops.specs.PendingTable.{held_at, under, AreInUse}
use Rattle.relay_core.specs.declared.failover.FailoverChoice.{FailoverChoice}
use Rattle.relay_core.specs.declared.failover.FailoverChoice.TheVariants.{Forget, SendAgain, GiveUp}
use Rattle.relay_core.specs.declared.failover.PlannedFailover.{PlannedFailover}
use Rattle.relay_core.specs.declared.node.RelayNode.{RelayNode}
use Rattle.relay_core.specs.Failover.{next_hop_again}

-- a request with T set
abbrev pub repeated : Message → Message
repeated request = record { header = record request.header { resent = true }; body = request.body }

abbrev pub choice_by_hop : RelayNode → Message → Origin → Result ConnId ResultCode → FailoverChoice
choice_by_hop node request origin (Ok to) = SendAgain to (repeated request)
choice_by_hop node request origin (Err code) = GiveUp origin.conn (under origin.hop (refusal_of node.name node.realm request (refusal_with code)))

abbrev pub choice_by_origin : RelayNode → Message → Option Origin → FailoverChoice
choice_by_origin node request None = Forget
choice_by_origin node request (Some origin) = choice_by_hop node request origin (next_hop_again node request)

abbrev pub choice_of : RelayNode → Held → FailoverChoice
choice_of node held = choice_by_origin node held.request held.origin

abbrev pub choice_at : RelayNode → Option Held → FailoverChoice
choice_at node (Some held) = choice_of node held
choice_at node None = Forget

abbrev pub planned_for : RelayNode → ConnId → List Row → ℕ → PlannedFailover
planned_for node lost rows hop = record { hop = hop; choice = choice_at node (held_at rows lost hop) }

-- the choice is that for what is held under the identifier
abbrev pub Fits : RelayNode → ConnId → List Row → PlannedFailover → Type 0
Fits node lost rows planned = (held : Held) → held_at rows lost planned.hop ≡ Some held → planned.choice ≡ choice_of node held

-- a plan for the requests that were sent on the connection, the least identifier first
pub record IsFailoverPlan (node : RelayNode) (lost : ConnId) (rows : List Row) (plan : List PlannedFailover) : Type 0 where
  pub hops : AreInUse rows lost (map (λ planned. planned.hop) plan)
  pub choices : AllByRecursion (Fits node lost rows) plan
