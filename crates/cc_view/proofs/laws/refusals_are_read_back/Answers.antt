use Rattle.cc_view.proofs.FittingMessages.{refusal-read_back}
use Rattle.cc_view.proofs.laws.refusals_are_read_back.Goals as goal

pub returns : goal.returns
returns c = refusal-read_back
