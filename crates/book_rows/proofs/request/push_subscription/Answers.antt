use Rattle.book_rows.proofs.RequestWritten.{subscription_added}
use Rattle.book_rows.proofs.request.push_subscription.Goals as goal

pub returns : goal.returns
returns c = subscription_added c.args.value.now c.in_ok-push_u32.ensures c.in_ok-push_octets.ensures
