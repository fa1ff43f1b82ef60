use Rattle.relay_hops.proofs.InUse.{its_hop}
use Rattle.relay_hops.proofs.laws.held_has_its_identifier.Goals as goal

pub returns : goal.returns
returns c = its_hop
