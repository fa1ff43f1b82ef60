use Rattle.relay_hops.proofs.LookUps.{held-orphaned}
use Rattle.relay_hops.proofs.laws.held_without_origins.Goals as goal

pub returns : goal.returns
returns c = held-orphaned
