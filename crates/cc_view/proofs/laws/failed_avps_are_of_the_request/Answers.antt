use Rattle.dia_grammar.specs.Profile.{strict}
use Rattle.cc_view.specs.RequestView.{view_of}
use Rattle.cc_view.proofs.NamedAvps.{failed-named}
use Rattle.cc_view.proofs.laws.failed_avps_are_of_the_request.Goals as goal

pub returns : goal.returns
unfolding view_of
returns c = λ vendors. failed-named (strict vendors)
