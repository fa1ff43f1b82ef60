use Rattle.std.proofs.Common.{ap}
use Rattle.relay_core.specs.RelayState.{RelayState}
use Rattle.relay_core.proofs.Cases.{if_ok}
use Rattle.relay_core.proofs.Giving.{one-nothing}
use Rattle.relay_core.proofs.run.on_received.Goals as goal

pub returns-in-Err-clause-given : goal.returns-in-Err-clause-given
returns-in-Err-clause-given g c =
    if_ok c.nothing_unless_memory.result _ _
    (λ out e. one-nothing c.args.relay.now.pending c.on_message.new.self.pending out.items e.0 (ap (λ (r : RelayState). r.pending) c.in-Err.ensures.err))
    c.nothing_unless_memory.ensures.refused
