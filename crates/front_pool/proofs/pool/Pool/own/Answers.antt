use Rattle.std.proofs.Common.{rules}
use Rattle.front_pool.proofs.Jobs.{no_longer, numbered_either}
use Rattle.front_pool.proofs.pool.Pool.own.Goals as goal

pub invariant_of-self : goal.invariant_of-self
invariant_of-self g c = (
  search rules,
  search rules,
  search rules,
  search rules,
  search rules,
  search rules,
  search rules,
  no_longer c.take_off.result _ _ _ c.take_off.ensures.len c.self.invariant.7,
  numbered_either c.take_off.result _ _ _ _ c.take_off.ensures.taken c.self.invariant.8,
)
