use Rattle.std.proofs.Common.{◌≡◌, [], take, drop}
use Rattle.farm_terms.specs.SiteAccounts.{stand_once_behind}
use Rattle.farm_terms.proofs.accounts.first_twice.Given as goal

abbrev pub invariant-loop-place : goal.invariant-loop-place
invariant-loop-place l = stand_once_behind [] l.accounts ≡ stand_once_behind (take l.place l.accounts) (drop l.place l.accounts)
