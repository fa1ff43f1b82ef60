use Rattle.std.proofs.Common.{◌≡◌, ◌++◌, take}
use Rattle.std.specs.List.{flat_map}
use Rattle.farm_player.specs.ChangeWords.{standing_words}
use Rattle.farm_player.proofs.change.push_all_standing.Given as goal

abbrev pub invariant-loop-subscription : goal.invariant-loop-subscription
invariant-loop-subscription l = l.out.items ≡ l.fn.out.items ++ flat_map (standing_words l.said) (take l.subscription-index l.subscriptions)
