use Rattle.std.proofs.Common.{◌≡◌, map, take, vec_len}
use Rattle.std.specs.List.{AllZip}
use Rattle.toml.specs.View.{view}
use Rattle.farm_access.specs.Spelling.{SpellsRule}
use Rattle.farm_access.proofs.reading.rules_at.Given as goal

abbrev pub invariant-loop-entry : goal.invariant-loop-entry
invariant-loop-entry l = record {
  counted : vec_len l.rules ≡ l.entry-index;
  spelled : AllZip SpellsRule (map view (take l.entry-index l.entries)) l.rules.items;
}
