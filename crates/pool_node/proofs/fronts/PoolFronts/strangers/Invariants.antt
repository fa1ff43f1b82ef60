use Rattle.std.proofs.Common.{◌≡◌, min, sum_by, take}
use Rattle.pool_node.specs.Fronts.{FrontState}
use Rattle.pool_node.proofs.fronts.PoolFronts.strangers.Given as goal

abbrev pub invariant-loop-front : goal.invariant-loop-front
invariant-loop-front g l = l.count ≡ min (sum_by (λ (front : FrontState). front.pool.strangers) (take l.front-index l.self.fronts)) 18446744073709551615
