use Rattle.std.proofs.Common.{refl}
use Rattle.hex.specs.Hex.{decode_pairs}
use Rattle.dia_avp.specs.AvpReading.{split_of, split_from}
use Rattle.dia_avp.proofs.laws.first_fault_of_octets_is_told.Goals as goal

pub returns-clause-short : goal.returns-clause-short
unfolding split_of split_from decode_pairs
returns-clause-short c = refl

pub returns-clause-too_small : goal.returns-clause-too_small
unfolding split_of split_from decode_pairs
returns-clause-too_small c = refl

pub returns-clause-overrun : goal.returns-clause-overrun
unfolding split_of split_from decode_pairs
returns-clause-overrun c = refl
