use Rattle.std.proofs.Common.{◌≡◌, ◌++◌, map, take, drop}
use Rattle.farm_metrics.specs.Counting.{row_after}
use Rattle.farm_metrics.proofs.times.count_in.Given as goal

abbrev pub invariant-loop-row : goal.invariant-loop-row
invariant-loop-row l = l.rows ≡ map (row_after l.micros) (take l.row-index l.fn.rows) ++ drop l.row-index l.fn.rows
