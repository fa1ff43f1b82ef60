use Rattle.relay_core.proofs.PartingRuns.{asks-event, stays_away}
use Rattle.relay_core.proofs.Reaching.{none_on}
use Rattle.relay_core.proofs.laws.requests_go_to_those_that_stay.Goals as goal

pub returns-clause-asks : goal.returns-clause-asks
returns-clause-asks c = asks-event

pub returns-clause-leaves : goal.returns-clause-leaves
returns-clause-leaves c = none_on

pub returns-clause-away : goal.returns-clause-away
returns-clause-away c = stays_away
