-- What is read is what the digits so far and those to come write.
use Rattle.std.proofs.Common.{◌≡◌, ◌<◌, ◌^◌, drop}
use Rattle.farm_script.specs.Words.{value_of}
use Rattle.farm_script.proofs.Digits.{read_on}
use Rattle.farm_script.proofs.word.value_of.Given as goal

abbrev pub invariant-loop-octet : goal.invariant-loop-octet
invariant-loop-octet l = (value_of l.word ≡ read_on l.number (drop l.octet-index l.word)) × (l.number < 2 ^ 64)
