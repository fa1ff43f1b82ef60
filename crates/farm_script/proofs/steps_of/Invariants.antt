-- What the text spells is the steps so far and those of the lines that are left.
use Rattle.std.proofs.Common.{◌≡◌, ◌+◌, ◌≤◌, length}
use Rattle.std.specs.Str.Lines.{lines}
use Rattle.farm_script.specs.Schedule.{steps_of}
use Rattle.farm_script.proofs.Readings.{Continues}
use Rattle.farm_script.proofs.steps_of.Given as goal

abbrev pub invariant-loop-rest : goal.invariant-loop-rest
invariant-loop-rest l = record {
  spelled : Continues l.site (steps_of l.site l.text) l.steps.items (l.line + 1) (lines l.rest);
  counted : l.line + length l.rest ≤ length l.text;
  numbered : l.line + length (lines l.rest) ≡ length (lines l.text);
}

abbrev pub decreases-loop-rest : goal.decreases-loop-rest
decreases-loop-rest l = length l.rest
