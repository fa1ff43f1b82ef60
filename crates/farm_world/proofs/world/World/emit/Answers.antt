use Rattle.farm_model.specs.World.{WorldState}
use Rattle.farm_world.proofs.Turning.{emit_turn, emit_none_turn}
use Rattle.farm_world.proofs.world.World.emit.Goals as goal

pub returns-in_ok-post-in-Ok-Some-clause-ok : goal.returns-in_ok-post-in-Ok-Some-clause-ok
returns-in_ok-post-in-Ok-Some-clause-ok c =
    let i = c.self.inside in
    let w : WorldState = record { directions = i.directions.items; fronts = i.fronts.items; relays = i.relays.items; book = i.book; sent = i.sent.items; received = i.received.items; ends = i.ends.items } in
    let first = rw c.deref.ensures.value at c.in-Some.ensures.found in
    let emits = rw c.in-Ok-Some.field-0-is at c.in-Ok-Some.ensures.ok in
    rw (← c.self.view_is) (emit_turn w c.args.front c.args.worker c.in-Some.place c.index_mut.result.now c.emit.new.self c.in-Ok-Some.out c.post.new.directions.items first c.index_mut.ensures.value emits c.in_ok-post-in-Ok-Some.ensures)

pub returns-in-Ok-None-clause-ok : goal.returns-in-Ok-None-clause-ok
returns-in-Ok-None-clause-ok c =
    let i = c.self.inside in
    let w : WorldState = record { directions = i.directions.items; fronts = i.fronts.items; relays = i.relays.items; book = i.book; sent = i.sent.items; received = i.received.items; ends = i.ends.items } in
    let first = rw c.deref.ensures.value at c.in-Some.ensures.found in
    let emits = rw c.in-Ok-None.field-0-is at c.in-Ok-None.ensures.ok in
    rw (← c.self.view_is) (emit_none_turn w c.args.front c.args.worker c.in-Some.place c.index_mut.result.now c.emit.new.self first c.index_mut.ensures.value emits)
