use Rattle.std.proofs.Common.{◌≡◌, ◌++◌, drop}
use Rattle.farm_endpoints.specs.Endpoints.{neighbours_from}
use Rattle.farm_endpoints.proofs.names.neighbours_of.Given as goal

abbrev pub invariant-loop-place : goal.invariant-loop-place
invariant-loop-place l = l.neighbours.items ++ neighbours_from l.site l.at l.place (drop l.place l.site.nodes) ≡ neighbours_from l.site l.at 0 l.site.nodes
