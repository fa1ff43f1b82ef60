use Rattle.relay_hops.proofs.LookUps.{moved-rest}
use Rattle.relay_hops.proofs.laws.moved_is_out_and_in.Goals as goal

pub returns : goal.returns
returns c = moved-rest
