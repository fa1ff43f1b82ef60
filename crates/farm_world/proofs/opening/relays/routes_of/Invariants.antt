use Rattle.std.proofs.Common.{◌≡◌, ◌++◌, drop}
use Rattle.farm_model.specs.Run.{routes_at}
use Rattle.farm_world.proofs.opening.relays.routes_of.Given as goal

abbrev pub invariant-loop-route : goal.invariant-loop-route
invariant-loop-route l = l.found.items ++ routes_at (drop l.route-index l.routes) l.relay ≡ routes_at l.routes l.relay
