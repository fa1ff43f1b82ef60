use Rattle.std.proofs.Common.{◌≡◌, ◌≤◌, ℕ, drop, length, ◌-◌}
use Rattle.farm_metrics.specs.Reading.{code_of, code_within}
use Rattle.farm_metrics.proofs.reading.code_of_answer.Given as goal

-- the code is that of the AVPs from here on, of which there are so many at most
abbrev pub invariant-loop-at : goal.invariant-loop-at
invariant-loop-at l = (count : ℕ) × (length (drop l.at l.body) ≤ count) × (code_within count (drop l.at l.body) ≡ code_of l.body)

abbrev pub decreases-loop-at : goal.decreases-loop-at
decreases-loop-at l = length l.body - l.at
