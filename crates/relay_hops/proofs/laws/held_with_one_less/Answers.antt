use Rattle.relay_hops.proofs.InUse.{held-without}
use Rattle.relay_hops.proofs.laws.held_with_one_less.Goals as goal

pub returns : goal.returns
returns c = held-without
