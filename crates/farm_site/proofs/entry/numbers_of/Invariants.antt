use Rattle.std.proofs.Common.{◌≡◌, true, map, take, vec_len}
use Rattle.std.specs.List.{list_all}
use Rattle.farm_base.specs.CheckedSite.{is_within}
use Rattle.toml.specs.Data.{integer}
use Rattle.farm_site.specs.Spelling.{number}
use Rattle.farm_site.proofs.entry.numbers_of.Given as goal

abbrev pub invariant-loop-integer : goal.invariant-loop-integer
invariant-loop-integer l = record {
  counted : vec_len l.numbers ≡ l.integer-index;
  read : map integer (take l.integer-index l.integer-items) ≡ map number l.numbers.items;
  range : list_all (is_within l.least 4294967295) l.numbers.items ≡ true;
}
