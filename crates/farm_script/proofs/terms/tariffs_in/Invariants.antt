use Rattle.std.proofs.Common.{◌≡◌, [], length}
use Rattle.farm_script.specs.TermsWords.{tariffs_from}
use Rattle.farm_script.proofs.TermsReading.{octets_of}
use Rattle.farm_script.proofs.terms.tariffs_in.Given as goal

-- the words that are left say the tariffs behind those that are read
abbrev pub invariant-loop-rest : goal.invariant-loop-rest
invariant-loop-rest l = tariffs_from [] (octets_of l.words) ≡ tariffs_from l.tariffs.items (octets_of l.rest)

abbrev pub decreases-loop-rest : goal.decreases-loop-rest
decreases-loop-rest l = length l.rest
