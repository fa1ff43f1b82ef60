use Rattle.std.proofs.Common.{◌≡◌, ◌≤◌, ◌*◌, ◌++◌, drop, length}
use Rattle.pool_node.specs.Fronts.{new_fronts}
use Rattle.pool_node.proofs.start.start_each.Given as goal

abbrev pub invariant-loop-node : goal.invariant-loop-node
invariant-loop-node g l =
    (l.fronts.items ++ new_fronts (drop l.node-index l.nodes) l.site.workers l.site.queue ≡ new_fronts l.nodes l.site.workers l.site.queue)
    × (length (drop l.node-index l.nodes) * l.site.workers ≤ length l.seats.items)
