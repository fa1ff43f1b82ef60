use Rattle.farm_model.specs.World.{WorldState}
use Rattle.farm_world.proofs.Turning.{refuse_turn}
use Rattle.farm_world.proofs.world.World.refuse.Goals as goal

pub returns-clause-ok : goal.returns-clause-ok
returns-clause-ok g c =
    let i = c.self.inside in
    let w : WorldState = record { directions = i.directions.items; fronts = i.fronts.items; relays = i.relays.items; book = i.book; sent = i.sent.items; received = i.received.items; ends = i.ends.items } in
    let first = rw c.deref.ensures.value at c.in-Some.ensures.found in
    rw (← c.self.view_is) (refuse_turn w c.args.front c.args.worker c.in-Some.place c.index_mut.result.now c.in-Ok.applied c.refuse.new.self first c.index_mut.ensures.value c.in-Ok.ensures.ok)
