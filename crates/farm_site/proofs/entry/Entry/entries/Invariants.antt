use Rattle.std.proofs.Common.{◌≡◌, map, take, vec_len}
use Rattle.toml.specs.Data.{table}
use Rattle.toml.specs.View.{view}
use Rattle.farm_site.specs.Spelling.{tables_of}
use Rattle.farm_site.proofs.entry.Entry.entries.Given as goal

abbrev pub invariant-loop-value : goal.invariant-loop-value
invariant-loop-value l = record {
  counted : vec_len l.entries ≡ l.value-index;
  read : map view (take l.value-index l.values) ≡ map table (tables_of l.entries.items);
}
