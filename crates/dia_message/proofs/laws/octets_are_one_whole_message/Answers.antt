use Rattle.std.proofs.Common.{refl}
use Rattle.hex.specs.Hex.{decode_pairs}
use Rattle.dia_message.specs.Spelling.{octets_of}
use Rattle.dia_message.specs.Stream.{stream_from, stream_of}
use Rattle.dia_message.proofs.laws.octets_are_one_whole_message.Goals as goal

pub returns-clause-one : goal.returns-clause-one
unfolding decode_pairs stream_of stream_from octets_of
returns-clause-one c = refl

pub returns-clause-written : goal.returns-clause-written
unfolding decode_pairs stream_of stream_from octets_of
returns-clause-written c = refl

pub returns-clause-none : goal.returns-clause-none
unfolding decode_pairs stream_of stream_from octets_of
returns-clause-none c = refl
