use Rattle.relay_core.proofs.Among.{event-among}
use Rattle.relay_core.proofs.laws.relays_that_nobody_leaves_are_relays.Goals as goal

pub returns : goal.returns
returns c = λ relay event sent next. event-among relay next event sent
