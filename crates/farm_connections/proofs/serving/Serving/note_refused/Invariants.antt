use Rattle.std.proofs.Common.{◌≡◌}
use Rattle.farm_connections.specs.Desks.{kept_by}
use Rattle.farm_connections.proofs.serving.Serving.note_refused.Given as goal

abbrev pub invariant-loop : goal.invariant-loop
invariant-loop g l = (kept_by l.self.desk ≡ kept_by l.fn.self.desk) × (l.self.desk.links ≡ l.fn.self.desk.links) × (l.self.locals ≡ l.fn.self.locals)
