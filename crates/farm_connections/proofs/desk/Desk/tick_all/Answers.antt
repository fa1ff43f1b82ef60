use Rattle.std.proofs.Common.{◌≡◌, length, refl, rules}
use Rattle.farm_connections.specs.Calls.{next_does, none_does}
use Rattle.farm_connections.proofs.Telling.{no_way, way_then}
use Rattle.farm_connections.proofs.desk.Desk.tick_all.Goals as goal

pub loop-place-init : goal.loop-place-init
loop-place-init g c = record { tells = no_way _ _ refl; places = refl; each = none_does }

pub loop-place-preserved : goal.loop-place-preserved
loop-place-preserved g c =
    let places : length c.tick_one.new.self.links.items ≡ length c.args.self.now.links.items = search rules in
    record {
      tells = way_then c.loop-place.invariant.tells c.tick_one.ensures.tells;
      places = places;
      each = next_does c.loop-place.place c.loop-place.self c.tick_one.new.self c.loop-place.invariant.each c.tick_one.ensures.ticks;
    }
