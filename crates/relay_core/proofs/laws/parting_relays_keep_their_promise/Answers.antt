use Rattle.relay_core.proofs.Keeping.{promise-of}
use Rattle.relay_core.proofs.PartingRuns.{counts_parting, ends_parting, goes_on_parting}
use Rattle.relay_core.proofs.Rising.{rising-of}
use Rattle.relay_core.proofs.laws.parting_relays_keep_their_promise.Goals as goal

pub returns-clause-promise : goal.returns-clause-promise
returns-clause-promise c = λ site start matching events past last staying run. promise-of site.name site.realm past last (goes_on_parting site start matching run).0

pub returns-clause-rising : goal.returns-clause-rising
returns-clause-rising c = λ site start matching events past last staying run gives. rising-of (counts_parting site start matching run gives)

pub returns-clause-ends : goal.returns-clause-ends
returns-clause-ends c = λ site start matching events past last staying run. ends_parting site start matching run
