use Rattle.relay_hops.proofs.InUse.{rest-in_use}
use Rattle.relay_hops.proofs.laws.the_rest_are_in_use.Goals as goal

pub returns : goal.returns
returns c = rest-in_use
