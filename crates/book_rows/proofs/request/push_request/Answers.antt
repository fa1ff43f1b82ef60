use Rattle.std.proofs.Common.{List, subst}
use Rattle.cc_view.specs.declared.request.Subscription.{Subscription}
use Rattle.book_rows.specs.Form.{Adds, listed}
use Rattle.book_rows.specs.Parts.{subscription}
use Rattle.book_rows.proofs.RequestWritten.{request_added}
use Rattle.book_rows.proofs.request.push_request.Goals as goal

pub returns : goal.returns
returns c =
    let subscriptions = subst (λ (xs : List Subscription). Adds (listed subscription) xs c.push_optional_action.new.out.items c.push_subscriptions.new.out.items) c.as_slice.ensures c.in_ok-push_subscriptions.ensures in
    request_added c.args.value.now c.in_ok-push_octets.ensures c.in_ok-push_u32.ensures c.in_ok-push_kind.ensures c.in_ok-push_optional_action.ensures subscriptions c.in_ok-push_services.ensures
