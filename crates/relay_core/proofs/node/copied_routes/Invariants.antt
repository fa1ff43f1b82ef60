use Rattle.std.proofs.Common.{◌≡◌, take}
use Rattle.relay_core.proofs.node.copied_routes.Given as goal

-- those before the index are copied
abbrev pub invariant-loop-route : goal.invariant-loop-route
invariant-loop-route l = l.copies.items ≡ take l.route-index l.routes
