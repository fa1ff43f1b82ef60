use Rattle.std.proofs.Common.{◌≡◌, ◌++◌, map, take}
use Rattle.std.specs.List.{flat_map}
use Rattle.farm_cli.specs.Skipped.{skipped_line}
use Rattle.farm_cli.proofs.skipped.push_lines.Given as goal

abbrev pub invariant-loop-number : goal.invariant-loop-number
invariant-loop-number l =
    l.out.items ≡ l.fn.out.items ++ flat_map (skipped_line (map (λ line. line.now) l.said)) (take l.number-index l.numbers)
