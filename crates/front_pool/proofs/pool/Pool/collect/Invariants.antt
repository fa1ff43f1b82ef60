use Rattle.front_pool.specs.Keeping.{FoundNone}
use Rattle.front_pool.proofs.pool.Pool.collect.Given as goal

abbrev pub invariant-loop : goal.invariant-loop
invariant-loop g l = record {
  next : (goal.iterator-loop g).can_next l.iterator';
  finite : (goal.iterator-loop g).is_finite l.iterator';
  found : FoundNone l.fn.self l.self;
}
