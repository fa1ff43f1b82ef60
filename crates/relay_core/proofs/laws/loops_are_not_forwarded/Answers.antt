use Rattle.relay_core.proofs.Descending.{forwarded-no_loop}
use Rattle.relay_core.proofs.laws.loops_are_not_forwarded.Goals as goal

pub returns : goal.returns
returns c = forwarded-no_loop
