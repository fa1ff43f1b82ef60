use Rattle.cc_view.proofs.Forwarding.{answer-alike}
use Rattle.cc_view.proofs.laws.answer_by_what_is_carried.Goals as goal

pub returns : goal.returns
returns c = answer-alike
