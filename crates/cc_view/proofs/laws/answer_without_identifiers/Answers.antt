use Rattle.std.proofs.Common.{refl}
use Rattle.cc_view.specs.Answer.{answer_to}
use Rattle.cc_view.proofs.laws.answer_without_identifiers.Goals as goal

pub returns : goal.returns
unfolding answer_to
returns c = λ front realm message request reply hop end resent. refl
