use Rattle.dia_grammar.specs.Profile.{strict}
use Rattle.cc_view.specs.RequestView.{view_of}
use Rattle.cc_view.proofs.ViewedSessions.{session_part-viewed}
use Rattle.cc_view.proofs.laws.session_is_written.Goals as goal

pub returns : goal.returns
unfolding view_of
returns c = λ vendors. session_part-viewed (strict vendors)
