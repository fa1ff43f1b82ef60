use Rattle.farm_model.specs.Loss.{Loss}
use Rattle.farm_model.specs.World.{WorldState}
use Rattle.std.proofs.lemmas.Result.{on_ok_weaker}
use Rattle.farm_world.proofs.Losing.{learnt_by_front}
use Rattle.farm_world.proofs.world.World.learn_loss.Goals as goal

pub returns-clause-ok : goal.returns-clause-ok
returns-clause-ok g c =
    let i = c.self.inside in
    let w : WorldState = record { directions = i.directions.items; fronts = i.fronts.items; relays = i.relays.items; book = i.book; sent = i.sent.items; received = i.received.items; ends = i.ends.items } in
    let loss : Loss = record { node = c.loss.inside.node; conn = c.loss.inside.conn } in
    let first = rw c.deref.ensures.value at c.in-Some.ensures.found in
    rw (← c.self.view_is, ← c.loss.view_is) (
    on_ok_weaker c.post-2.result
    (λ done. learnt_by_front w loss c.in-Some.place c.index_mut.result.now c.lose.new.node c.post-2.new.directions.items c.in_ok-out-2.out.items first c.index_mut.ensures.value c.in_ok-out-2.ensures done)
    c.post-2.ensures
    )
