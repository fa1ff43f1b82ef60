use Rattle.std.proofs.Common.{◌≡◌, ◌≤◌, vec_len, vec_capacity}
use Rattle.front_pool.specs.Working.{TakesMore}
use Rattle.front_pool.proofs.worker.Worker.take_more.Given as goal

abbrev pub invariant-loop-more : goal.invariant-loop-more
invariant-loop-more g l = record {
  taken : TakesMore l.fn.self l.fn.jobs.items l.jobs.items l.self;
  few : vec_len l.jobs ≤ l._more;
  room : vec_capacity l.jobs ≡ vec_capacity l.fn.jobs;
}
