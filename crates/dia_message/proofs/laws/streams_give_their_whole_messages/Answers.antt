use Rattle.std.proofs.Common.{refl}
use Rattle.hex.specs.Hex.{decode_pairs}
use Rattle.dia_message.specs.Stream.{stream_from, stream_of}
use Rattle.dia_message.proofs.laws.streams_give_their_whole_messages.Goals as goal

pub returns-clause-both : goal.returns-clause-both
unfolding decode_pairs stream_of stream_from
returns-clause-both c = refl

pub returns-clause-cut : goal.returns-clause-cut
unfolding decode_pairs stream_of stream_from
returns-clause-cut c = refl

pub returns-clause-octets : goal.returns-clause-octets
unfolding decode_pairs stream_of stream_from
returns-clause-octets c = refl
