use Rattle.farm_model.specs.World.{WorldState}
use Rattle.farm_world.proofs.Turning.{charge_turn}
use Rattle.farm_world.proofs.world.World.charge.Goals as goal

pub returns-clause-ok : goal.returns-clause-ok
returns-clause-ok g c =
    let i = c.self.inside in
    let w : WorldState = record { directions = i.directions.items; fronts = i.fronts.items; relays = i.relays.items; book = i.book; sent = i.sent.items; received = i.received.items; ends = i.ends.items } in
    let first = rw c.deref.ensures.value at c.in-Some.ensures.found in
    rw (← c.self.view_is) (charge_turn w c.args.front c.args.worker c.args.moment c.in-Some.place c.index_mut-at.result.now c.in-Ok.applied c.charge.new.self c.charge.new.book first c.index_mut-at.ensures.value c.in-Ok.ensures.ok)
