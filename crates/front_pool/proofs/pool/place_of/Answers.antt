use Rattle.std.proofs.Common.{rules}
use Rattle.front_pool.proofs.Jobs.{not_taken_off}
use Rattle.front_pool.proofs.pool.place_of.Goals as goal

pub returns-clause-none : goal.returns-clause-none
returns-clause-none c = not_taken_off _ _ (search rules)
