use Rattle.std.proofs.Common.{◌≡◌, [], length}
use Rattle.farm_script.specs.TermsWords.{items_from}
use Rattle.farm_script.proofs.TermsReading.{octets_of}
use Rattle.farm_script.proofs.terms.account_items.Given as goal

-- the words that are left say the accounts behind those that are read
abbrev pub invariant-loop-rest : goal.invariant-loop-rest
invariant-loop-rest l = items_from [] (octets_of l.items) ≡ items_from l.accounts.items (octets_of l.rest)

abbrev pub decreases-loop-rest : goal.decreases-loop-rest
decreases-loop-rest l = length l.rest
