use Rattle.std.proofs.Common.{List, subst}
use Rattle.cc_view.specs.declared.request.Subscription.{Subscription}
use Rattle.cc_book.specs.declared.account.Account.{Account}
use Rattle.book_rows.specs.Form.{Adds, listed}
use Rattle.book_rows.specs.Parts.{subscription}
use Rattle.book_rows.specs.TermsParts.{account}
use Rattle.book_rows.proofs.TermsPartsWritten.{change_added}
use Rattle.book_rows.proofs.change.push_change.Goals as goal

pub returns : goal.returns
returns c =
    let joining = subst (λ (xs : List Account). Adds (listed account) xs c.args.out.now.items c.push_accounts.new.out.items) c.as_slice.ensures c.in_ok-push_accounts.ensures in
    let closing = subst (λ (xs : List Subscription). Adds (listed subscription) xs c.push_accounts.new.out.items c.push_subscriptions.new.out.items) c.as_slice-2.ensures c.in_ok-push_subscriptions.ensures in
    let reopening = subst (λ (xs : List Subscription). Adds (listed subscription) xs c.push_subscriptions.new.out.items c.push_subscriptions-2.new.out.items) c.as_slice-3.ensures c.in_ok-push_subscriptions-2.ensures in
    change_added c.args.value.now joining closing reopening c.in_ok-push_optional_tariffs.ensures
