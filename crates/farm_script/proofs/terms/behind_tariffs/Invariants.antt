use Rattle.std.proofs.Common.{◌≡◌, length}
use Rattle.farm_script.specs.TermsWords.{behind_tariffs}
use Rattle.farm_script.proofs.TermsReading.{octets_of}
use Rattle.farm_script.proofs.terms.behind_tariffs.Given as goal

abbrev pub invariant-loop-rest : goal.invariant-loop-rest
invariant-loop-rest l = behind_tariffs (octets_of l.items) ≡ behind_tariffs (octets_of l.rest)

abbrev pub decreases-loop-rest : goal.decreases-loop-rest
decreases-loop-rest l = length l.rest
