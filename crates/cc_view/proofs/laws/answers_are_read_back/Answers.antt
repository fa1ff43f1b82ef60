use Rattle.dia_grammar.specs.Profile.{strict}
use Rattle.cc_view.specs.RequestView.{view_of}
use Rattle.cc_view.proofs.FittingMessages.{answer-read_back}
use Rattle.cc_view.proofs.laws.answers_are_read_back.Goals as goal

pub returns : goal.returns
unfolding view_of
returns c = λ vendors. answer-read_back (strict vendors)
