use Rattle.std.proofs.Common.{◌≡◌, ◌++◌, take}
use Rattle.std.specs.List.{flat_map}
use Rattle.book_lines.specs.Lines.{standing_text}
use Rattle.book_lines.proofs.change.push_all_standing.Given as goal

abbrev pub invariant-loop-subscription : goal.invariant-loop-subscription
invariant-loop-subscription l = l.out.items ≡ l.fn.out.items ++ flat_map (standing_text l.said) (take l.subscription-index l.subscriptions)
