use Rattle.std.proofs.Common.{◌≡◌, true, None, take, vec_len}
use Rattle.std.specs.List.{AllZip, list_all}
use Rattle.cc_rating.specs.Tariffs.{fault_of}
use Rattle.farm_site.specs.Spelling.{SpellsTariff, is_typed_tariff, tables_of}
use Rattle.farm_site.proofs.tariff.tariffs_of.Given as goal

abbrev pub invariant-loop-entry : goal.invariant-loop-entry
invariant-loop-entry l = record {
  counted : vec_len l.tariffs ≡ l.entry-index;
  sound : fault_of l.tariffs.items ≡ None;
  typed : list_all is_typed_tariff l.tariffs.items ≡ true;
  spelled : AllZip SpellsTariff (tables_of (take l.entry-index l.entry-items)) l.tariffs.items;
}
