use Rattle.std.proofs.Common.{◌≡◌, cond, true, ap, ◌∙◌, rules}
use Rattle.indexmap.specs.IndexSet.{contains}
use Rattle.cc_view.specs.declared.request.Subscription.{Subscription}
use Rattle.cc_book.specs.TermsChange.{same_subscription}
use Rattle.cc_book.proofs.Owners.{knows-more}
use Rattle.cc_book.proofs.subscriptions.add_known.Goals as goal

pub returns : goal.returns
returns c =
    let copied : c.in_ok-clone.field-0 ≡ c.args.id.now = search rules in
    record {
      ok = λ ids knows. knows-more ids c.args.id.now c.args.known.now c.insert.new.self knows
          (λ other. c.in_ok-insert.ensures.updates.0 other
          ∙ ap (λ (id : Subscription). cond (same_subscription id other) true (contains same_subscription c.args.known.now other)) copied);
    }
