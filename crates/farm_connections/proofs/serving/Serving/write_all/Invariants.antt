use Rattle.std.proofs.Common.{◌≡◌, length}
use Rattle.farm_connections.specs.Desks.{kept_by}
use Rattle.farm_connections.proofs.serving.Serving.write_all.Given as goal

abbrev pub invariant-loop-place : goal.invariant-loop-place
invariant-loop-place g l = record {
  kept : kept_by l.self.desk ≡ kept_by l.fn.self.desk;
  places : length l.self.desk.links.items ≡ length l.fn.self.desk.links.items;
  locals : l.self.locals ≡ l.fn.self.locals;
}
