use Rattle.std.proofs.Common.{map, take}
use Rattle.toml.specs.View.{view}
use Rattle.farm_access.specs.Spelling.{Asks}
use Rattle.farm_access.proofs.reading.strictness_at.Given as goal

abbrev pub invariant-loop-entry : goal.invariant-loop-entry
invariant-loop-entry l = Asks (map view (take l.entry-index l.words)) l.strictness
