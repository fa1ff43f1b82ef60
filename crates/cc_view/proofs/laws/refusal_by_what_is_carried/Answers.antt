use Rattle.cc_view.proofs.Forwarding.{refusal-alike}
use Rattle.cc_view.proofs.laws.refusal_by_what_is_carried.Goals as goal

pub returns : goal.returns
returns c = refusal-alike
