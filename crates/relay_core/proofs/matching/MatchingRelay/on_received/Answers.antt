use Rattle.std.proofs.Common.{ap}
use Rattle.relay_core.specs.declared.matching.MatchingRelay.{MatchingRelay}
use Rattle.relay_core.proofs.Cases.{if_ok}
use Rattle.relay_core.proofs.Giving.{one-nothing}
use Rattle.relay_core.proofs.matching.MatchingRelay.on_received.Goals as goal

pub returns-in-Err-clause-given : goal.returns-in-Err-clause-given
returns-in-Err-clause-given g c =
    if_ok c.nothing_unless_memory.result _ _
    (λ out e. one-nothing c.args.self.now.relay.pending c.on_message.new.self.relay.pending out.items e.0 (ap (λ (r : MatchingRelay). r.relay.pending) c.in-Err.ensures.err))
    c.nothing_unless_memory.ensures.refused
