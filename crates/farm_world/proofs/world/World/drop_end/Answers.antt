use Rattle.std.proofs.Common.{List, subst, ap}
use Rattle.farm_model.specs.declared.state.Direction.{Direction}
use Rattle.farm_model.specs.Loss.{Loss, LearnsLoss}
use Rattle.farm_model.specs.World.{WorldState, front_at}
use Rattle.farm_world.proofs.Losing.{dropped_known, dropped_unknown}
use Rattle.farm_world.proofs.world.World.drop_end.Goals as goal

pub returns-in_ok-learn_loss-clause-ok : goal.returns-in_ok-learn_loss-clause-ok
returns-in_ok-learn_loss-clause-ok g c =
    let i = c.self.inside in
    let w : WorldState = record { directions = i.directions.items; fronts = i.fronts.items; relays = i.relays.items; book = i.book; sent = i.sent.items; received = i.received.items; ends = i.ends.items } in
    let part : Direction = c.index-direction.result.now in
    let loss : Loss = record { node = c.args.a; conn = part.conn } in
    let next : WorldState = c.learn_loss.new.self in
    let first = rw c.deref.ensures.value at c.in-Some.ensures.found in
    let learned = subst (λ (ds : List Direction). LearnsLoss (record w { directions = ds }) loss (front_at c.args.a w.fronts) next) c.remove_end.ensures c.in_ok-learn_loss.ensures.ok in
    rw (← c.self.view_is) (dropped_known w c.args.a c.args.b c.in-Some.place part next first c.index-direction.ensures c.if-known.true learned)

pub returns-else-known-clause-ok : goal.returns-else-known-clause-ok
returns-else-known-clause-ok g c =
    let i = c.self.inside in
    let w : WorldState = record { directions = i.directions.items; fronts = i.fronts.items; relays = i.relays.items; book = i.book; sent = i.sent.items; received = i.received.items; ends = i.ends.items } in
    let part : Direction = c.index-direction.result.now in
    let next : WorldState = record w { directions = c.remove_end.new.directions.items } in
    let first = rw c.deref.ensures.value at c.in-Some.ensures.found in
    let left = ap (λ (ds : List Direction). record w { directions = ds }) c.remove_end.ensures in
    rw (← c.self.view_is) (dropped_unknown w c.args.a c.args.b c.in-Some.place part next first c.index-direction.ensures c.if-known.false left)
