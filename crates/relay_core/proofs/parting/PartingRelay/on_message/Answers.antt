use Rattle.std.proofs.Common.{refl}
use Rattle.relay_core.proofs.Giving.{one-nothing}
use Rattle.relay_core.proofs.parting.PartingRelay.on_message.Goals as goal

pub returns-then-drops-clause-given : goal.returns-then-drops-clause-given
returns-then-drops-clause-given g c = one-nothing c.args.self.now.matched.relay.pending c.args.self.now.matched.relay.pending c.nothing.result.items c.nothing.ensures refl
