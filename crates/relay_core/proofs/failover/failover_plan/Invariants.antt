use Rattle.std.proofs.Common.{◌≡◌, map, take}
use Rattle.relay_core.specs.Failover.{without_origins}
use Rattle.relay_core.specs.FailoverPlan.{planned_for}
use Rattle.relay_core.specs.Routing.{node_for}
use Rattle.relay_core.proofs.failover.failover_plan.Given as goal

-- those before the index are planned
abbrev pub invariant-loop-hop : goal.invariant-loop-hop
invariant-loop-hop g l = l.plan.items ≡ map (planned_for (node_for l.routing) l.lost (without_origins l.lost l.pending.rows)) (take l.hop-index l.hop-items)
