use Rattle.std.proofs.Common.{refl}
use Rattle.hex.specs.Hex.{decode_pairs}
use Rattle.dia_avp.proofs.laws.avps_are_written_with_zero_padding.Goals as goal

pub returns-clause-one : goal.returns-clause-one
unfolding decode_pairs
returns-clause-one c = refl

pub returns-clause-request : goal.returns-clause-request
unfolding decode_pairs
returns-clause-request c = refl

pub returns-clause-answer : goal.returns-clause-answer
unfolding decode_pairs
returns-clause-answer c = refl

pub returns-clause-vendor : goal.returns-clause-vendor
unfolding decode_pairs
returns-clause-vendor c = refl
