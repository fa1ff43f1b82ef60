use Rattle.std.proofs.Common.{List, ap, sym, ◌∙◌, rules}
use Rattle.farm_model.specs.declared.state.Direction.{Direction}
use Rattle.farm_model.specs.World.{WorldState, conn_known}
use Rattle.farm_world.proofs.Turning.{send_turn}
use Rattle.farm_world.proofs.world.World.send.Goals as goal

pub returns-clause-ok : goal.returns-clause-ok
returns-clause-ok c =
    let i = c.self.inside in
    let w : WorldState = record { directions = i.directions.items; fronts = i.fronts.items; relays = i.relays.items; book = i.book; sent = i.sent.items; received = i.received.items; ends = i.ends.items } in
    let known = ap (λ (ds : List Direction). conn_known ds c.args.client c.args.to) (sym c.deref.ensures.value) ∙ sym c.in-Some.ensures in
    rw (← c.self.view_is)
    (send_turn c.args.site.now w c.args.client c.args.to c.in-Some.conn c.args.message.now c.post_one.new.directions.items c.push.new.self.items (search rules) known (search rules) (search rules))
