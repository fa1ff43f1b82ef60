use Rattle.std.proofs.Common.{refl}
use Rattle.hex.specs.Hex.{decode_pairs}
use Rattle.dia_avp.proofs.laws.values_are_numbers_in_network_order.Goals as goal

pub returns-clause-unsigned32 : goal.returns-clause-unsigned32
unfolding decode_pairs
returns-clause-unsigned32 c = refl

pub returns-clause-unsigned64 : goal.returns-clause-unsigned64
unfolding decode_pairs
returns-clause-unsigned64 c = refl
