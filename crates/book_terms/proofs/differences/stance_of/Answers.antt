use Rattle.std.proofs.Common.{◌≡◌, ◌≤◌, true, length, List, sym, ap, subst, ◌∙◌}
use Rattle.cc_book.specs.declared.account.Account.{Account}
use Rattle.book_terms.specs.Difference.{is_there}
use Rattle.book_terms.proofs.Leading.{there_has_no_other, there_is_known}
use Rattle.book_terms.proofs.differences.stance_of.Goals as goal

pub returns-in-Some : goal.returns-in-Some
returns-in-Some c =
    let there : is_there c.args.there.now c.args.account.now ≡ true =
    sym (ap (λ (accounts : List Account). is_there accounts c.args.account.now) c.as_slice.ensures) ∙ sym c.in-Some.ensures.there in (
      there_has_no_other c.args.there.now c.args.account.now there,
      there_is_known c.args.there.now c.args.account.now there,
      subst (λ (accounts : List Account). c.in-Some.before ≤ length accounts) c.as_slice.ensures c.in-Some.ensures.within,
    )
