use Rattle.std.proofs.Common.{refl}
use Rattle.hex.specs.Hex.{decode_pairs}
use Rattle.dia_avp.proofs.laws.one_avp_more_pads_the_last.Goals as goal

pub returns-clause-whole : goal.returns-clause-whole
unfolding decode_pairs
returns-clause-whole c = refl

pub returns-clause-one_octet : goal.returns-clause-one_octet
unfolding decode_pairs
returns-clause-one_octet c = refl

pub returns-clause-two_octets : goal.returns-clause-two_octets
unfolding decode_pairs
returns-clause-two_octets c = refl

pub returns-clause-three_octets : goal.returns-clause-three_octets
unfolding decode_pairs
returns-clause-three_octets c = refl
