use Rattle.std.proofs.Common.{List, sym, subst}
use Rattle.std.specs.Prelude.{IfSome}
use Rattle.cc_book.specs.declared.account.Account.{Account}
use Rattle.cc_book.specs.Owners.{Finds}
use Rattle.cc_book.proofs.Owners.{if-finds-first}
use Rattle.cc_book.proofs.accounts.Accounts.join.Goals as goal

pub invariant_of-self : goal.invariant_of-self
invariant_of-self c =
    subst (λ (accounts : List Account). IfSome c.self-2.inside.firsts (Finds accounts)) (sym c.truncate.ensures.items)
    (if-finds-first c.self-2.inside.items.items c.self-2.inside.firsts c.self-2.invariant c.len-count.result)
