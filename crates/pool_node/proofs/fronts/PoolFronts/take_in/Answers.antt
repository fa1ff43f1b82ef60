use Rattle.std.proofs.Common.{refl, ◌∙◌}
use Rattle.pool_node.proofs.Collecting.{collects}
use Rattle.pool_node.proofs.Measuring.{goes_out}
use Rattle.pool_node.proofs.fronts.PoolFronts.take_in.Goals as goal

pub returns : goal.returns
returns g c = record {
  collected = c.collect_all-collected.result;
  behind = c.collect_all-collected.new.self;
  collecting = collects _ _ _ _ _ _ _ _ _ c.new-sent.ensures.items c.collect_all-collected.ensures.collects c.reaction.ensures.sent refl;
  done = c.collect_sweep-done.result;
  swept = c.collect_sweep-done.ensures;
  told = c.reaction.ensures.outcome ∙ c.outcome_of_all.ensures;
  few = goes_out _ _ _ _ c.new-sent.ensures.items c.collect_all-collected.ensures.few c.reaction.ensures.sent;
}
