use Rattle.std.proofs.Common.{rules, ◌≡◌, ◌∙◌, map, get_or, take_all, Some, None, ap, ℕ}
use Rattle.relay_hops.specs.PendingTable.{held_at, without_origin}
use Rattle.relay_core.specs.declared.failover.FailoverChoice.TheVariants.{Forget}
use Rattle.relay_core.specs.declared.failover.PlannedFailover.{PlannedFailover}
use Rattle.relay_core.specs.Failover.{without_origins}
use Rattle.relay_core.specs.FailoverPlan.{choice_of, planned_for}
use Rattle.relay_core.specs.Routing.{node_for}
use Rattle.relay_core.proofs.Planning.{planned_more, planned-some, planned-none, plan_made}
use Rattle.relay_core.proofs.failover.failover_plan.Goals as goal
use Rattle.relay_core.proofs.failover.failover_plan.Goals.{in-Some+in_ok-choice-in-Some, in-None}

pub loop-hop-preserved : goal.loop-hop-preserved
loop-hop-preserved g c =
    let hop : ℕ = get_or c.as_slice-hop-items.result.now c.loop-hop.hop-index 0 in
    let planned : PlannedFailover = record { hop = hop; choice = c.match-held.choice } in
    let is : planned ≡ planned_for (node_for c.args.routing) c.args.lost (without_origins c.args.lost c.args.pending.now.rows) hop =
    elim c.match-held.branch [
      | in-Some+in_ok-choice-in-Some w ↦
          let there : held_at c.args.pending.now.rows c.args.lost hop ≡ Some w.in-Some.held.now = search rules in
          let choice : c.match-held.choice ≡ choice_of (node_for c.args.routing) (without_origin c.args.lost w.in-Some.held.now) = search rules in
          planned-some (node_for c.args.routing) c.args.lost c.args.pending.now.rows hop w.in-Some.held.now c.match-held.choice there choice
      | in-None w ↦
          let there : held_at c.args.pending.now.rows c.args.lost hop ≡ None = search rules in
          let choice : c.match-held.choice ≡ Forget = search rules in
          planned-none (node_for c.args.routing) c.args.lost c.args.pending.now.rows hop c.match-held.choice there choice
    ] in
    planned_more (planned_for (node_for c.args.routing) c.args.lost (without_origins c.args.lost c.args.pending.now.rows)) c.as_slice-hop-items.result.now c.loop-hop.hop-index
    c.loop-hop.plan.items c.push.new.self.items planned (search rules) c.loop-hop.invariant is (search rules)

pub returns : goal.returns
returns g c =
    plan_made (node_for c.args.routing) c.args.lost c.args.pending.now.rows c.in_ok-hops.hops.items c.loop-hop.plan.items c.in_ok-hops.ensures.in_use
    (c.loop-hop.invariant ∙ ap (map (planned_for (node_for c.args.routing) c.args.lost (without_origins c.args.lost c.args.pending.now.rows))) (take_all c.loop-hop.hop-index c.as_slice-hop-items.result.now (search rules) ∙ c.as_slice-hop-items.ensures.value))
