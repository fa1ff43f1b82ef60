-- What is kept of each step that is tried.
use Rattle.std.specs.Prelude.{ℕ, ◌+◌, ◌-◌, ◌^◌, Bool, true, false, List, ◌++◌, min}
use Rattle.farm_base.specs.declared.site.Site.{Site}
use Rattle.farm_base.specs.declared.step.Step.{Step}
use Rattle.farm_player.specs.StepLines.{step_line}

-- one more where a step applied, up to the largest number
abbrev pub steps_after : Bool → ℕ → ℕ
steps_after true steps = min (steps + 1) (2 ^ 64 - 1)
steps_after false steps = steps

-- one line more where lines are asked for and the step applied
abbrev pub lines_after : Bool → Bool → Site → Step → List ℕ → List ℕ
lines_after true true site step lines = lines ++ step_line site step
lines_after true false site step lines = lines
lines_after false applied site step lines = lines
