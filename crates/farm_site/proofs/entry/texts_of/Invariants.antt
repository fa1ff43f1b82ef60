use Rattle.std.proofs.Common.{◌≡◌, map, take, vec_len}
use Rattle.toml.specs.Data.{string}
use Rattle.toml.specs.View.{view}
use Rattle.farm_site.proofs.entry.texts_of.Given as goal

abbrev pub invariant-loop-value : goal.invariant-loop-value
invariant-loop-value l = record {
  counted : vec_len l.texts ≡ l.value-index;
  read : map view (take l.value-index l.values) ≡ map string (map (λ text. text.now) l.texts.items);
}
