use Rattle.dia_grammar.specs.Profile.{strict}
use Rattle.cc_view.specs.RequestView.{view_of}
use Rattle.cc_view.proofs.Unread.{view-unread}
use Rattle.cc_view.proofs.laws.view_without_unread_avps.Goals as goal

pub returns : goal.returns
unfolding view_of
returns c = λ vendors. view-unread (strict vendors)
