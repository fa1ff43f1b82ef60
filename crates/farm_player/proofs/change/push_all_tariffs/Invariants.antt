use Rattle.std.proofs.Common.{◌≡◌, ◌++◌, take}
use Rattle.std.specs.List.{flat_map}
use Rattle.farm_player.specs.ChangeWords.{tariff_words}
use Rattle.farm_player.proofs.change.push_all_tariffs.Given as goal

abbrev pub invariant-loop-tariff : goal.invariant-loop-tariff
invariant-loop-tariff l = l.out.items ≡ l.fn.out.items ++ flat_map tariff_words (take l.tariff-index l.tariffs)
