use Rattle.std.proofs.Common.{◌≡◌, length}
use Rattle.farm_connections.specs.Desks.{kept_by}
use Rattle.farm_connections.proofs.Telling.{Way}
use Rattle.farm_connections.proofs.Doing.{Done}
use Rattle.farm_connections.proofs.desk.Desk.perform.Given as goal

abbrev pub invariant-loop-act : goal.invariant-loop-act
invariant-loop-act g l = record {
  tells : Way g.N.Node.on_event (kept_by l.fn.self) (kept_by l.self);
  places : length l.self.links.items ≡ length l.fn.self.links.items;
  done : Done g.N.Node.on_event l.fn.place l.fn.self l.fn.acts l.acts l.self;
}

abbrev pub decreases-loop-act : goal.decreases-loop-act
decreases-loop-act g l = length l.acts
