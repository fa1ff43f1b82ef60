use Rattle.std.proofs.Common.{◌≡◌, take}
use Rattle.farm_model.specs.Run.{Past, Run, start, steps_in}
use Rattle.farm_cli.specs.Skipped.{skipped_from}
use Rattle.farm_cli.proofs.skipped.skipped_steps.Given as goal

abbrev pub invariant-loop-place : goal.invariant-loop-place
invariant-loop-place g l =
    (past : Past) × Run l.site (start l.site) past l.world × (steps_in past ≡ take l.place l.steps) × (l.numbers.items ≡ skipped_from 1 past)
