use Rattle.std.proofs.Common.{ℕ, Option, Ok, subst}
use Rattle.pool_node.specs.Measure.{AddsOne}
use Rattle.pool_node.proofs.Measuring.{few_at_last}
use Rattle.pool_node.proofs.fronts.PoolFronts.collect_at.Goals as goal

pub returns-then-octets-ge-COLLECT_OCTETS-clause-few : goal.returns-then-octets-ge-COLLECT_OCTETS-clause-few
returns-then-octets-ge-COLLECT_OCTETS-clause-few g c =
    let mid = c.loop-round.sent.items in let after = c.collect_one.new.sent.items in
    let one = subst (λ (found : Option ℕ). AddsOne (Ok found) mid after) c.in-Some.is c.in_ok-more.ensures.adds in
    few_at_last c.loop-round.octets c.in-Some.more _ mid after c.loop-round.invariant.adds c.loop-round.invariant.under one
