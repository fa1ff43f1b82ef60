use Rattle.std.proofs.Common.{◌≡◌, map, take}
use Rattle.toml.specs.Data.{integer}
use Rattle.toml.specs.View.{view}
use Rattle.farm_site.proofs.entry.integers_of.Given as goal

abbrev pub invariant-loop-value : goal.invariant-loop-value
invariant-loop-value l = map view (take l.value-index l.values) ≡ map integer l.integers.items
