use Rattle.std.proofs.Common.{ap, get_or, sym, List, ◌∙◌}
use Rattle.std.specs.List.{list_any}
use Rattle.cc_view.specs.declared.request.Subscription.{Subscription}
use Rattle.cc_book.specs.declared.account.Account.{Account}
use Rattle.cc_book.specs.TermsChange.{owns}
use Rattle.cc_book.proofs.Looking.{is_closed_at_get}
use Rattle.cc_book.proofs.terms.Terms.is_closed.Goals as goal

pub returns : goal.returns
returns c =
    let accounts = c.args.self.now.accounts in
    let closed = c.args.self.now.closed in
    let account : Account = c.index-as_slice-account.result in
    c.contains_owner_of.ensures
    ∙ ap (λ (a : Account). list_any (λ (s : Subscription). owns s a) closed)
    (c.index-as_slice-account.is ∙ ap (λ (all : List Account). get_or all c.args.account account) c.as_slice.ensures)
    ∙ sym (is_closed_at_get accounts closed c.args.account account c.requires)
