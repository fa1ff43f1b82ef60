use Rattle.std.proofs.Common.{subst}
use Rattle.dia_grammar.specs.Profile.{RequestProfile}
use Rattle.cc_view.specs.RequestView.{IsView, view_of, view_under}
use Rattle.cc_view.proofs.view.request_of.Goals as goal

pub returns-clause-view : goal.returns-clause-view
unfolding view_of
returns-clause-view g c =
    subst (λ (profile : RequestProfile). IsView (view_under profile c.args.message.now) c.request_under.result) c.strict.ensures c.request_under.ensures.view
