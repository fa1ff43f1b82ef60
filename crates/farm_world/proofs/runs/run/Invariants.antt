use Rattle.std.proofs.Common.{◌≡◌, ◌≤◌, take}
use Rattle.farm_model.specs.Run.{Past, Run, start, steps_in, skipped_in}
use Rattle.farm_world.proofs.runs.run.Given as goal

abbrev pub invariant-loop-place : goal.invariant-loop-place
invariant-loop-place g l =
    (past : Past) × Run l.site (start l.site) past l.world × (steps_in past ≡ take l.place l.steps) × (l.skipped ≡ skipped_in past) × (l.skipped ≤ l.place)
