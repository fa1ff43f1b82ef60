use Rattle.std.proofs.Common.{◌≡◌, take, replicate}
use Rattle.front_core.specs.declared.worker.Worker.TheVariants.{Idle}
use Rattle.front_core.proofs.front.free.Given as goal

-- the workers so far are idle
abbrev pub invariant-loop-worker : goal.invariant-loop-worker
invariant-loop-worker l = take l.worker-index l.workers ≡ replicate l.worker-index Idle
