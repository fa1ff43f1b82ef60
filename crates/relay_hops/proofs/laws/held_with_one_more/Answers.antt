use Rattle.relay_hops.proofs.LookUps.{held-with}
use Rattle.relay_hops.proofs.laws.held_with_one_more.Goals as goal

pub returns : goal.returns
returns c = held-with
