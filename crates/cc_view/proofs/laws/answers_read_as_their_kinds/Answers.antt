use Rattle.dia_grammar.specs.Profile.{strict}
use Rattle.cc_view.specs.RequestView.{view_of}
use Rattle.cc_view.proofs.TypedAnswers.{answer-typed}
use Rattle.cc_view.proofs.laws.answers_read_as_their_kinds.Goals as goal

pub returns : goal.returns
unfolding view_of
returns c = λ vendors. answer-typed (strict vendors)
