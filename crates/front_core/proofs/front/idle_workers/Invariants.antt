use Rattle.std.proofs.Common.{◌≡◌, replicate}
use Rattle.front_core.specs.declared.worker.Worker.TheVariants.{Idle}
use Rattle.front_core.proofs.front.idle_workers.Given as goal

abbrev pub invariant-loop-made : goal.invariant-loop-made
invariant-loop-made l = l.workers.items ≡ replicate l.made Idle
