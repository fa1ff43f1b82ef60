use Rattle.std.proofs.Common.{◌≡◌, length}
use Rattle.farm_connections.specs.Calls.{Settles}
use Rattle.farm_connections.specs.Desks.{kept_by, marks_of, ups}
use Rattle.farm_connections.proofs.Telling.{Way}
use Rattle.farm_connections.proofs.desk.Desk.settle.Given as goal

abbrev pub invariant-loop-place : goal.invariant-loop-place
invariant-loop-place g l = record {
  tells : Way g.N.Node.on_event (kept_by l.fn.self) (kept_by l.self);
  places : length l.self.links.items ≡ length l.fn.self.links.items;
  settles : Settles g.N.Node.on_event l.fn.self l.self;
}

abbrev pub decreases-loop-place : goal.decreases-loop-place
decreases-loop-place g l = ups (marks_of l.self.links.items)
