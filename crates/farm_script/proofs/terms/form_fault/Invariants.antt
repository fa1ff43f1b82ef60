use Rattle.std.proofs.Common.{◌≡◌, drop, false, Ok}
use Rattle.farm_script.specs.TermsWords.{form_fault}
use Rattle.farm_script.proofs.TermsReading.{octets_of}
use Rattle.farm_script.proofs.terms.form_fault.Given as goal

-- what is wrong is wrong with what is left
abbrev pub invariant-loop-word : goal.invariant-loop-word
invariant-loop-word l =
    form_fault (Ok (record { in_tariffs = false; left = 0 })) (octets_of l.items) ≡ form_fault (Ok l.form) (octets_of (drop l.word-index l.items))
