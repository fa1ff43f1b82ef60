use Rattle.std.proofs.Common.{◌≡◌, drop}
use Rattle.cc_book.specs.AccountMachine.{account_of}
use Rattle.cc_book.proofs.terms.Terms.account_of.Given as goal

abbrev pub invariant-loop-subscription : goal.invariant-loop-subscription
invariant-loop-subscription l =
    account_of l.self l.fn.request.subscriptions ≡ account_of l.self (drop l.subscription-index l.subscription-items)
