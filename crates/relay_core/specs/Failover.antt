-- What a relay does when a connection has ended (RFC 6733, section 5.5.4).
use Rattle.std.specs.Prelude.{◌≡◌, ℕ, ◌≤◌, List, [], ◌∷◌, ◌++◌, map, Some, None, IsSome, Result, Ok, Err}
use Rattle.dia_base.specs.declared.number.ConnId.{ConnId}
use Rattle.dia_avp.specs.declared.avp.RawAvp.{RawAvp}
use Rattle.dia_message.specs.declared.message.Message.{Message}
use Rattle.dia_message.specs.Traffic.{Traffic}
use Rattle.cc_view.specs.declared.code.ResultCode.{ResultCode}
use Rattle.cc_view.specs.declared.refusal.Refusal.{Refusal}
use Rattle.cc_view.specs.Answer.{refusal_of}
use Rattle.cc_view.specs.Refusal.{avps_of, refusal_with}
use Rattle.relay_hops.specs.declared.row.Held.{Held}
use Rattle.relay_hops.specs.declared.row.Origin.{Origin}
use Rattle.relay_hops.specs.declared.row.Row.{Row}
use Rattle.relay_hops.specs.PendingTable.{held_at, under, again, resent, orphaned, IsWith, IsMoved}
use Rattle.relay_core.specs.declared.node.RelayNode.{RelayNode}
use Rattle.relay_core.specs.RelayState.{RelayState, node_but, with_rows}
use Rattle.relay_core.specs.NextHop.{next_hop}
use Rattle.relay_core.specs.RelayStep.{row_of}

-- the AVPs of a request that was sent: its body was read before
abbrev pub avps_in : Result (List RawAvp) Refusal → List RawAvp
avps_in (Ok avps) = avps
avps_in (Err refusal) = []

-- where a request that was sent goes now: it has its Route-Record, and no peer of which it has one is a candidate again; what a relay refuses whoever is up it refused before
abbrev pub next_hop_again : RelayNode → Message → Result ConnId ResultCode
next_hop_again node request = next_hop node (avps_in (avps_of request.body)) request.header.application

-- What becomes of one request that was sent on the connection: what is sent, and the rows afterwards.
pub data RequestFailover (node : RelayNode) (lost : ConnId) (held : Held) (rows : List Row) : Traffic → List Row → Type 0 where
  -- nobody waits for it
  forgotten : (left : List Row) → held.origin ≡ None → IsWith (row_of lost held) left rows →
      RequestFailover node lost held rows [] left
  -- it goes out again, with T set, under any identifier that is not in use there
  sent_again : (origin : Origin) (to : ConnId) (hop : ℕ) (left : List Row) → held.origin ≡ Some origin → next_hop_again node held.request ≡ Ok to →
      held_at rows to hop ≡ None → IsMoved (row_of lost held) (resent to hop (row_of lost held)) rows left →
      RequestFailover node lost held rows ((to, again hop held.request) ∷ []) left
  -- its asker is told why it goes nowhere
  given_up : (origin : Origin) (code : ResultCode) (left : List Row) → held.origin ≡ Some origin → next_hop_again node held.request ≡ Err code →
      IsWith (row_of lost held) left rows →
      RequestFailover node lost held rows ((origin.conn, under origin.hop (refusal_of node.name node.realm held.request (refusal_with code))) ∷ []) left

-- The requests that were sent on the connection, one after the other, the least identifier first, until none is left.
pub data Failover (node : RelayNode) (lost : ConnId) : List Row → Traffic → List Row → Type 0 where
  none_left : (rows : List Row) → ((hop : ℕ) → held_at rows lost hop ≡ None) → Failover node lost rows [] rows
  least_first : (hop : ℕ) (held : Held) (rows between left : List Row) (sent more : Traffic) →
      held_at rows lost hop ≡ Some held → ((other : ℕ) → IsSome (held_at rows lost other) → hop ≤ other) →
      RequestFailover node lost held rows sent between → Failover node lost between more left →
      Failover node lost rows (sent ++ more) left

-- no peer is up on the connection
abbrev pub after_end : ConnId → RelayNode → RelayNode
after_end conn node = node_but (Some conn) node

-- what came on the connection has nowhere to be answered to
abbrev pub without_origins : ConnId → List Row → List Row
without_origins conn rows = map (orphaned conn) rows

-- What a relay sends, and what it is afterwards, when it has lost a connection.
pub record OnConnLost (relay : RelayState) (conn : ConnId) (sent : Traffic) (next : RelayState) : Type 0 where
  pub rows : List Row
  pub failover : Failover (after_end conn relay.node) conn (without_origins conn relay.pending.rows) sent rows
  pub after : next ≡ with_rows rows (record { node = after_end conn relay.node; pending = relay.pending })
