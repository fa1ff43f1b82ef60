use Rattle.pool_law.proofs.Morning.{morning_happens}
use Rattle.pool_law.proofs.laws.a_morning_can_happen.Goals as goal

pub returns : goal.returns
returns c = morning_happens
