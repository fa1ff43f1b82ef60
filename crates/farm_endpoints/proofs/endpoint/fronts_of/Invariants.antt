use Rattle.std.proofs.Common.{◌≡◌, ◌++◌, drop}
use Rattle.farm_endpoints.specs.Endpoints.{fronts_from}
use Rattle.farm_endpoints.proofs.endpoint.fronts_of.Given as goal

abbrev pub invariant-loop-place : goal.invariant-loop-place
invariant-loop-place l = l.fronts.items ++ fronts_from l.place (drop l.place l.site.nodes) ≡ fronts_from 0 l.site.nodes
