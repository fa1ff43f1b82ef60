use Rattle.std.proofs.Common.{◌≡◌, Ok, length}
use Rattle.pool_node.specs.Fronts.{CollectsMore}
use Rattle.pool_node.specs.Measure.{AddsFew}
use Rattle.pool_node.proofs.fronts.PoolFronts.collect_all.Given as goal

abbrev pub invariant-loop-place : goal.invariant-loop-place
invariant-loop-place g l = record {
  collects : CollectsMore g.L.Pooling.site g.L.Sharing.shared l.fn.self l.fn.sent.items l.sent.items (Ok tt) l.self;
  places : length l.self.fronts ≡ length l.fn.self.fronts;
  few : AddsFew l.place l.fn.sent.items l.sent.items;
}
