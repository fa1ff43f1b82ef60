use Rattle.std.proofs.Common.{◌≡◌, ◌<◌, Ok, length}
use Rattle.pool_node.specs.Fronts.{CollectsMore}
use Rattle.pool_node.specs.Measure.{AddsOctets}
use Rattle.pool_node.proofs.fronts.PoolFronts.collect_at.Given as goal

abbrev pub invariant-loop-round : goal.invariant-loop-round
invariant-loop-round g l = record {
  collects : CollectsMore g.L.Pooling.site g.L.Sharing.shared l.fn.self l.fn.sent.items l.sent.items (Ok tt) l.self;
  places : length l.self.fronts ≡ length l.fn.self.fronts;
  adds : AddsOctets l.octets l.fn.sent.items l.sent.items;
  under : l.octets < 262144;
}
