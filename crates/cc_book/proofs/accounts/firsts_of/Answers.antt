use Rattle.std.proofs.Common.{List, subst}
use Rattle.std.proofs.lemmas.List.{take_all}
use Rattle.cc_book.specs.declared.account.Account.{Account}
use Rattle.cc_book.specs.Owners.{Finds}
use Rattle.cc_book.proofs.accounts.firsts_of.Goals as goal

pub returns : goal.returns
returns c =
    subst (λ (accounts : List Account). Finds accounts c.loop-place.firsts) (take_all c.loop-place.place c.args.accounts.now c.loop-place-test.false) c.loop-place.invariant
