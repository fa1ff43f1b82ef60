use Rattle.relay_hops.proofs.LookUps.{any-hops_on}
use Rattle.relay_hops.proofs.laws.sent_to_is_what_is_held.Goals as goal

pub returns : goal.returns
returns c = any-hops_on
