use Rattle.relay_hops.proofs.OneGiven.{same_given}
use Rattle.relay_hops.proofs.examples.one_identifier_is_given.Goals as goal

pub returns : goal.returns
returns c = same_given
