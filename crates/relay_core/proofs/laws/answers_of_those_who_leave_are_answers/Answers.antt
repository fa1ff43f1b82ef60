use Rattle.relay_core.proofs.PartingRuns.{answers_alike}
use Rattle.relay_core.proofs.laws.answers_of_those_who_leave_are_answers.Goals as goal

pub returns : goal.returns
returns c = answers_alike
