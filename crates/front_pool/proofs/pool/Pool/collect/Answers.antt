use Rattle.front_pool.proofs.Passing.{passes_none, passes_over}
use Rattle.front_pool.proofs.pool.Pool.collect.Goals as goal

pub loop-init : goal.loop-init
loop-init g c = record { next = tt; finite = tt; found = passes_none c.args.self.now }

pub loop-preserved : goal.loop-preserved
loop-preserved g c = record {
  next = tt;
  finite = tt;
  found = passes_over c.args.self.now c.loop.self c.take.new.self c.own.new.self c.in_ok-finished.finished c.loop.invariant.found
      c.in_ok-finished.ensures.some c.in-None-own.ensures.none.0 c.in-None-own.ensures.none.1;
}
