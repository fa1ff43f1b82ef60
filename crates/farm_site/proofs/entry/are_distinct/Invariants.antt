use Rattle.std.proofs.Common.{◌≡◌, true, take}
use Rattle.farm_base.specs.CheckedSite.{same_number}
use Rattle.farm_base.specs.Lists.{are_distinct}
use Rattle.farm_site.proofs.entry.are_distinct.Given as goal

abbrev pub invariant-loop-place : goal.invariant-loop-place
invariant-loop-place l = are_distinct same_number (take l.place l.numbers) ≡ true
