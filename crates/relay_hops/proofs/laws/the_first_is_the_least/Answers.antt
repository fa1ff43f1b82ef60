use Rattle.relay_hops.proofs.InUse.{first-held, first-least}
use Rattle.relay_hops.proofs.laws.the_first_is_the_least.Goals as goal

pub returns-clause-held : goal.returns-clause-held
returns-clause-held c = first-held

pub returns-clause-least : goal.returns-clause-least
returns-clause-least c = first-least
