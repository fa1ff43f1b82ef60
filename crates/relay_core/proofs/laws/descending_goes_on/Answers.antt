use Rattle.relay_core.proofs.Descending.{descends-on}
use Rattle.relay_core.proofs.laws.descending_goes_on.Goals as goal

pub returns : goal.returns
returns c = descends-on
