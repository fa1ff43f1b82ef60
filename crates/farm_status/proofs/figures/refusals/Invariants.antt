use Rattle.std.proofs.Common.{◌≡◌, min, sum_by, take}
use Rattle.farm_status.specs.Figures.{refusals_of}
use Rattle.farm_status.proofs.figures.refusals.Given as goal

abbrev pub invariant-loop-at : goal.invariant-loop-at
invariant-loop-at l = l.sum ≡ min (sum_by (refusals_of l.kind) (take l.at-index l.answers.codes.items)) 18446744073709551615
