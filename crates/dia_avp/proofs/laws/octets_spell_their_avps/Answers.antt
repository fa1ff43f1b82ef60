use Rattle.std.proofs.Common.{refl}
use Rattle.hex.specs.Hex.{decode_pairs}
use Rattle.dia_avp.specs.AvpReading.{split_of, split_from}
use Rattle.dia_avp.proofs.laws.octets_spell_their_avps.Goals as goal

pub returns-clause-none : goal.returns-clause-none
unfolding split_of split_from decode_pairs
returns-clause-none c = refl

pub returns-clause-one : goal.returns-clause-one
unfolding split_of split_from decode_pairs
returns-clause-one c = refl

pub returns-clause-request : goal.returns-clause-request
unfolding split_of split_from decode_pairs
returns-clause-request c = refl

pub returns-clause-answer : goal.returns-clause-answer
unfolding split_of split_from decode_pairs
returns-clause-answer c = refl

pub returns-clause-padding : goal.returns-clause-padding
unfolding split_of split_from decode_pairs
returns-clause-padding c = refl

pub returns-clause-between : goal.returns-clause-between
unfolding split_of split_from decode_pairs
returns-clause-between c = refl

pub returns-clause-no_value : goal.returns-clause-no_value
unfolding split_of split_from decode_pairs
returns-clause-no_value c = refl

pub returns-clause-vendor : goal.returns-clause-vendor
unfolding split_of split_from decode_pairs
returns-clause-vendor c = refl
