use Rattle.std.proofs.Common.{refl}
use Rattle.farm_connections.proofs.Telling.{no_way}
use Rattle.farm_connections.proofs.serving.Serving.accept.Goals as goal

pub returns-then-unknown-ge-UNKNOWN_LIMIT-clause-tells : goal.returns-then-unknown-ge-UNKNOWN_LIMIT-clause-tells
returns-then-unknown-ge-UNKNOWN_LIMIT-clause-tells g c = no_way _ _ refl
