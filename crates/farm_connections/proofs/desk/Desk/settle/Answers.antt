use Rattle.std.proofs.Common.{◌≡◌, ◌<◌, length, refl, rules}
use Rattle.farm_connections.specs.Calls.{no_end, tells_end}
use Rattle.farm_connections.proofs.Telling.{no_way, way_then}
use Rattle.farm_connections.proofs.desk.Desk.settle.Goals as goal

pub loop-place-init : goal.loop-place-init
loop-place-init g c = record { tells = no_way _ _ refl; places = refl; settles = no_end }

pub loop-place-preserved : goal.loop-place-preserved
loop-place-preserved g c =
    let places : length c.tell_lost.new.self.links.items ≡ length c.args.self.now.links.items = search rules in
    let within : c.in-Some.place < length c.loop-place.self.links.items = search rules in
    record {
      tells = way_then c.loop-place.invariant.tells c.tell_lost.ensures.tells;
      places = places;
      settles = tells_end c.in-Some.place c.loop-place.self c.tell_lost.new.self c.loop-place.invariant.settles within c.tell_lost.ensures.says;
    }
