use Rattle.std.proofs.Common.{◌≡◌, ◌+◌, min, sum_by, take}
use Rattle.farm_metrics.specs.Counting.{most}
use Rattle.farm_metrics.specs.declared.answers.CodeCount.{CodeCount}
use Rattle.farm_metrics.proofs.answers.Answers.total.Given as goal

abbrev pub invariant-loop-at : goal.invariant-loop-at
invariant-loop-at l = l.total ≡ min (l.self.others + sum_by (λ (at : CodeCount). at.count) (take l.at-index l.self.codes.items)) most
