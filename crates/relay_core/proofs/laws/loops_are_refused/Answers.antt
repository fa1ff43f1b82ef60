use Rattle.relay_core.proofs.Keeping.{loop-refused}
use Rattle.relay_core.proofs.laws.loops_are_refused.Goals as goal

pub returns : goal.returns
returns c = loop-refused
