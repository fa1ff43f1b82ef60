use Rattle.dia_grammar.specs.Profile.{strict}
use Rattle.cc_view.specs.RequestView.{view_of}
use Rattle.cc_view.proofs.Shortness.{failed-short}
use Rattle.cc_view.proofs.laws.failed_avps_are_short.Goals as goal

pub returns : goal.returns
unfolding view_of
returns c = λ vendors. failed-short (strict vendors)
