use Rattle.std.proofs.lemmas.Result.{IfOk-weaker}
use Rattle.relay_core.specs.declared.run.RelayEvent.TheVariants.{Received}
use Rattle.farm_world.proofs.NodeEvents.{received}
use Rattle.farm_world.proofs.Relaying.{relay_takes}
use Rattle.farm_world.proofs.relays.receive.Goals as goal

pub returns : goal.returns
returns g c =
    let at = c.index_mut.result.now in
    let first = rw c.deref.ensures.value at c.in-Some.ensures.found in
    IfOk-weaker c.receive.result _ _
    (λ out does. relay_takes c.args.node (Received c.args.conn c.args.message) c.args.relays.now.items c.in-Some.place at c.receive.new.node out.items first c.index_mut.ensures.value
    (received at.relay c.args.conn c.args.message out.items c.receive.new.node does))
    c.receive.ensures
