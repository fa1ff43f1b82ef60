use Rattle.relay_core.proofs.Keeping.{promise-kept}
use Rattle.relay_core.proofs.laws.relays_keep_their_promise.Goals as goal

pub returns : goal.returns
returns c = λ site start events outs past last run. promise-kept site start run
