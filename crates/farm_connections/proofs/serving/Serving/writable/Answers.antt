use Rattle.farm_connections.proofs.Telling.{no_way, way_then}
use Rattle.farm_connections.proofs.serving.Serving.writable.Goals as goal

pub returns-clause-tells : goal.returns-clause-tells
returns-clause-tells g c = way_then (no_way _ _ c.flush_on.ensures.kept) c.settle.ensures.tells

pub returns-clause-writes : goal.returns-clause-writes
returns-clause-writes g c = record { mid = c.flush_on.new.self; does = c.flush_on.ensures.kept; settles = c.settle.ensures.settles }

pub returns-clause-writes_on : goal.returns-clause-writes_on
returns-clause-writes_on g c = record { mid = c.flush_on.new.self; does = c.flush_on.ensures.writes; settles = c.settle.ensures.settles }
