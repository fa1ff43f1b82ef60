use Rattle.std.proofs.Common.{List, subst}
use Rattle.std.proofs.lemmas.List.{take_all}
use Rattle.cc_view.specs.declared.request.Subscription.{Subscription}
use Rattle.cc_book.specs.Owners.{Knows}
use Rattle.cc_book.proofs.subscriptions.known_of.Goals as goal

pub returns : goal.returns
returns c =
    subst (λ (ids : List Subscription). Knows ids c.loop-id.known) (take_all c.loop-id.id-index c.args.ids.now c.loop-id-test.false) c.loop-id.invariant
