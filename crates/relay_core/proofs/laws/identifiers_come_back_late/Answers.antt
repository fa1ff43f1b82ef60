use Rattle.relay_core.proofs.Rising.{rising-kept}
use Rattle.relay_core.proofs.laws.identifiers_come_back_late.Goals as goal

pub returns : goal.returns
returns c = λ site start events outs past last run gives. rising-kept site start run gives
