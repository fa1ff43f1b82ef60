use Rattle.std.specs.Prelude.{◌≡◌, true}
use Rattle.crossbeam_queue.specs.Passes.{IsPassOf, view}
use Rattle.front_pool.proofs.pool.put.Given as goal

abbrev pub invariant-loop : goal.invariant-loop
invariant-loop g l = record {
  next : (goal.iterator-loop g).can_next l.iterator';
  finite : (goal.iterator-loop g).is_finite l.iterator';
  pass : IsPassOf l.fn.queue l.pass;
  by_pool : (view l.pass).by_pool ≡ true;
  same : view l.pass ≡ view l.fn.pass;
  job : l.job ≡ l.fn.job;
}
