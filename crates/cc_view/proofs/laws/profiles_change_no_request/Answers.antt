use Rattle.cc_view.proofs.ViewedSessions.{asked_alike, asked_avps}
use Rattle.cc_view.proofs.laws.profiles_change_no_request.Goals as goal

pub returns-clause-asked : goal.returns-clause-asked
returns-clause-asked c = asked_avps

pub returns-clause-alike : goal.returns-clause-alike
returns-clause-alike c = asked_alike
