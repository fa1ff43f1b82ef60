use Rattle.std.proofs.Common.{◌≡◌, ◌++◌, take}
use Rattle.std.specs.List.{flat_map}
use Rattle.book_lines.specs.Services.{count_text}
use Rattle.book_lines.proofs.services.push_sums.Given as goal

abbrev pub invariant-loop-sum : goal.invariant-loop-sum
invariant-loop-sum l = l.out.items ≡ l.fn.out.items ++ flat_map count_text (take l.sum-index l.sums)
