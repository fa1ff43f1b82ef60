use Rattle.book_rows.specs.Parts.{subscription}
use Rattle.book_rows.proofs.Repeated.{listed_added}
use Rattle.book_rows.proofs.request.push_subscriptions.Goals as goal

pub returns : goal.returns
returns c = listed_added subscription c.args.values.now _ _ _ c.in_ok-push_u64.ensures c.in_ok-push_all_subscriptions.ensures
