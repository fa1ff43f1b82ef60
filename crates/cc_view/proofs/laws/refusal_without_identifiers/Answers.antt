use Rattle.std.proofs.Common.{refl}
use Rattle.cc_view.specs.Answer.{refusal_of}
use Rattle.cc_view.proofs.laws.refusal_without_identifiers.Goals as goal

pub returns : goal.returns
unfolding refusal_of
returns c = λ node realm message refusal hop end resent. refl
