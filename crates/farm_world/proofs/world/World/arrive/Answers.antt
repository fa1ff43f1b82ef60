use Rattle.std.proofs.Common.{sym, ◌∙◌}
use Rattle.farm_model.specs.World.{WorldState}
use Rattle.std.proofs.lemmas.Result.{on_ok_weaker}
use Rattle.farm_world.proofs.Turning.{arrive_turn}
use Rattle.farm_world.proofs.world.World.arrive.Goals as goal

pub returns-clause-ok : goal.returns-clause-ok
returns-clause-ok g c =
    let i = c.self.inside in
    let w : WorldState = record { directions = i.directions.items; fronts = i.fronts.items; relays = i.relays.items; book = i.book; sent = i.sent.items; received = i.received.items; ends = i.ends.items } in
    let first = rw c.deref.ensures.value at c.in-Some.ensures.found in
    rw (← c.self.view_is) (
    on_ok_weaker c.post-2.result
    (λ done. arrive_turn c.args.site.now w c.args.node c.args.conn c.args.message c.in-Some.place c.index_mut.result.now c.receive-2.new.node c.post-2.new.directions.items c.in_ok-out-2.out.items (sym c.is_client.ensures ∙ c.if-is_client.false) first c.index_mut.ensures.value c.in_ok-out-2.ensures done)
    c.post-2.ensures
    )
