use Rattle.std.proofs.Common.{rules}
use Rattle.front_pool.proofs.Jobs.{numbered_more}
use Rattle.front_pool.proofs.pool.Pool.submit.Goals as goal

pub invariant_of-self-2 : goal.invariant_of-self-2
invariant_of-self-2 g c = (
  search rules,
  search rules,
  search rules,
  search rules,
  search rules,
  search rules,
  search rules,
  search rules,
  numbered_more c.self.inside.unanswered.items c.push_reserved.new.self.items c.self.inside.last c.in-Some.number c.args.conn c.args.request
      (search rules) (search rules) c.self.invariant.8,
)
