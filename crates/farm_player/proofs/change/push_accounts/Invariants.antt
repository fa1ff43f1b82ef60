use Rattle.std.proofs.Common.{◌≡◌, ◌++◌, take}
use Rattle.std.specs.List.{flat_map}
use Rattle.farm_player.specs.ChangeWords.{account_words}
use Rattle.farm_player.proofs.change.push_accounts.Given as goal

abbrev pub invariant-loop-account : goal.invariant-loop-account
invariant-loop-account l = l.out.items ≡ l.fn.out.items ++ flat_map account_words (take l.account-index l.accounts)
