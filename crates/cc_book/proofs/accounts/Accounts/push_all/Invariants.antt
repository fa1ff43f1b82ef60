use Rattle.std.proofs.Common.{◌≡◌, ◌++◌, take}
use Rattle.cc_book.proofs.accounts.Accounts.push_all.Given as goal

abbrev pub invariant-loop-account : goal.invariant-loop-account
invariant-loop-account l = l.self ≡ l.fn.self ++ take l.account-index l.joining
