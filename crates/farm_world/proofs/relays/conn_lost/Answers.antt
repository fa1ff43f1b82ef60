use Rattle.std.proofs.lemmas.Result.{IfOk-weaker}
use Rattle.relay_core.specs.declared.run.RelayEvent.TheVariants.{Lost}
use Rattle.farm_world.proofs.NodeEvents.{lost}
use Rattle.farm_world.proofs.Relaying.{relay_takes}
use Rattle.farm_world.proofs.relays.conn_lost.Goals as goal

pub returns : goal.returns
returns g c =
    let at = c.index_mut.result.now in
    let first = rw c.deref.ensures.value at c.in-Some.ensures.found in
    IfOk-weaker c.lose.result _ _
    (λ out does. relay_takes c.args.node (Lost c.args.conn) c.args.relays.now.items c.in-Some.place at c.lose.new.node out.items first c.index_mut.ensures.value
    (lost at.relay c.args.conn out.items c.lose.new.node does))
    c.lose.ensures
