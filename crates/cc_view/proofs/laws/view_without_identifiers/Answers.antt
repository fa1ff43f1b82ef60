use Rattle.std.proofs.Common.{refl}
use Rattle.cc_view.specs.RequestView.{view_of, view_under}
use Rattle.cc_view.proofs.laws.view_without_identifiers.Goals as goal

pub returns : goal.returns
unfolding view_of view_under
returns c = λ vendors message hop end resent. refl
