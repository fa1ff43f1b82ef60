use Rattle.std.proofs.Common.{◌≡◌, length}
use Rattle.farm_connections.specs.Calls.{EachDoes}
use Rattle.farm_connections.specs.Desks.{kept_by}
use Rattle.farm_connections.specs.Doing.{Ticks}
use Rattle.farm_connections.proofs.Telling.{Way}
use Rattle.farm_connections.proofs.desk.Desk.tick_all.Given as goal

abbrev pub invariant-loop-place : goal.invariant-loop-place
invariant-loop-place g l = record {
  tells : Way g.N.Node.on_event (kept_by l.fn.self) (kept_by l.self);
  places : length l.self.links.items ≡ length l.fn.self.links.items;
  each : EachDoes (Ticks g.N.Node.on_event l.fn.locals l.fn.moment) l.fn.self l.place l.self;
}
