use Rattle.std.proofs.Common.{◌≡◌, ◌+◌, ◌≤◌, None, length, vec_len, vec_capacity}
use Rattle.std.specs.Vec.Iter.{into_iter_items, into_iter_len}
use Rattle.relay_peers.specs.PeerTable.{peer_in}
use Rattle.relay_core.specs.declared.node.RelayNode.{RelayNode}
use Rattle.relay_core.specs.FailoverPlan.{IsFailoverPlan}
use Rattle.relay_core.specs.Giving.{SendsAgain}
use Rattle.relay_core.proofs.Planning.{DoneSoFar}
use Rattle.relay_core.proofs.failover.fail_over.Given as goal

-- The requests that were planned before are done, the rest of the plan stands, and there is room for it.
abbrev pub invariant-loop-planned : goal.invariant-loop-planned
invariant-loop-planned l = record {
  done : (node : RelayNode) → peer_in node.peers.links l.lost ≡ None → IsFailoverPlan node l.lost l.fn.pending.rows l.fn.plan.items →
      DoneSoFar node l.lost l.fn.pending.rows l.items.items l.pending.rows × IsFailoverPlan node l.lost l.pending.rows (into_iter_items l.planned-iterator)
      × SendsAgain l.fn.pending l.items.items l.pending;
  room : vec_len l.items + into_iter_len l.planned-iterator ≤ vec_capacity l.items;
  count : length (into_iter_items l.planned-iterator) ≡ into_iter_len l.planned-iterator;
  limit : l.pending.limit ≡ l.fn.pending.limit;
}
