use Rattle.std.proofs.Common.{◌≡◌, true, map, take}
use Rattle.farm_base.specs.CheckedSite.{same_tolerance}
use Rattle.farm_base.specs.Lists.{are_distinct}
use Rattle.farm_site.specs.Spelling.{tolerance_word}
use Rattle.farm_site.proofs.client.tolerated_of.Given as goal

abbrev pub invariant-loop-name : goal.invariant-loop-name
invariant-loop-name l = record {
  once : are_distinct same_tolerance l.tolerated.items ≡ true;
  named : map (λ name. name.now) (take l.name-index l.name-items) ≡ map tolerance_word l.tolerated.items;
}
