use Rattle.std.proofs.Common.{◌<◌, ◌+◌, length, arith, rules}
use Rattle.pool_node.proofs.Measuring.{few_more}
use Rattle.pool_node.proofs.fronts.PoolFronts.collect_all.Goals as goal

pub returns-in_err-collect_at-clause-few : goal.returns-in_err-collect_at-clause-few
returns-in_err-collect_at-clause-few g c =
    let below : c.loop-place.place < length c.args.self.now.fronts = search rules in
    few_more c.loop-place.place (length c.args.self.now.fronts) _ _ _ c.loop-place.invariant.few c.collect_at.ensures.few below

pub loop-place-preserved : goal.loop-place-preserved
loop-place-preserved g c =
    let next : c.loop-place.place < c.loop-place.place + 1 = omega arith in
    record {
      collects = search rules;
      places = search rules;
      few = few_more c.loop-place.place (c.loop-place.place + 1) _ _ _ c.loop-place.invariant.few c.collect_at.ensures.few next;
    }
