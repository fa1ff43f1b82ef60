use Rattle.std.proofs.Common.{refl}
use Rattle.hex.specs.Hex.{decode_pairs}
use Rattle.dia_message.proofs.laws.headers_spell_twenty_octets.Goals as goal

pub returns-clause-read : goal.returns-clause-read
unfolding decode_pairs
returns-clause-read c = refl

pub returns-clause-written : goal.returns-clause-written
unfolding decode_pairs
returns-clause-written c = refl

pub returns-clause-reserved : goal.returns-clause-reserved
unfolding decode_pairs
returns-clause-reserved c = refl

pub returns-clause-error : goal.returns-clause-error
unfolding decode_pairs
returns-clause-error c = refl

pub returns-clause-resent : goal.returns-clause-resent
unfolding decode_pairs
returns-clause-resent c = refl
