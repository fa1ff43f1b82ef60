use Rattle.std.proofs.Common.{map, take}
use Rattle.std.specs.List.{AllZip}
use Rattle.toml.specs.View.{view}
use Rattle.farm_access.specs.Spelling.{SpellsPrefix}
use Rattle.farm_access.proofs.reading.prefixes_of.Given as goal

abbrev pub invariant-loop-text : goal.invariant-loop-text
invariant-loop-text l = AllZip SpellsPrefix (map view (take l.text-index l.texts)) l.prefixes.items
