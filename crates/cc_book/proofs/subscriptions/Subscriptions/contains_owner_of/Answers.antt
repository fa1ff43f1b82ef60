use Rattle.std.proofs.Common.{◌≡◌, List, ap, ◌∙◌, rules}
use Rattle.indexmap.specs.IndexSet.{contains}
use Rattle.cc_view.specs.declared.request.Subscription.{Subscription}
use Rattle.cc_book.specs.TermsChange.{is_among, same_subscription}
use Rattle.cc_book.specs.Owners.{owner_of}
use Rattle.cc_book.proofs.subscriptions.Subscriptions.contains_owner_of.Goals as goal

pub returns : goal.returns
returns c =
    let account = c.args.account.now in
    let told : c.contains.result ≡ contains same_subscription c.self.inside.known (owner_of account) = search rules in
    told ∙ c.self.invariant (owner_of account) ∙ ap (λ (ids : List Subscription). is_among ids (owner_of account)) c.self.view_is
