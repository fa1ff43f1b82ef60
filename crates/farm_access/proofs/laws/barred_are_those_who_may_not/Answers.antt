use Rattle.std.proofs.Common.{arith}
use Rattle.farm_access.proofs.Barring.{barred_at}
use Rattle.farm_access.proofs.laws.barred_are_those_who_may_not.Goals as goal

pub returns : goal.returns
returns c = λ policy callers address node within.
    barred_at policy.strict callers 0 policy.rules address node.0 node.0 within (omega arith)
