use Rattle.dia_grammar.specs.Profile.{strict}
use Rattle.cc_view.specs.RequestView.{view_of}
use Rattle.cc_view.proofs.Readable.{viewed-readable}
use Rattle.cc_view.proofs.laws.requests_are_readable.Goals as goal

pub returns : goal.returns
unfolding view_of
returns c = λ vendors. viewed-readable (strict vendors)
