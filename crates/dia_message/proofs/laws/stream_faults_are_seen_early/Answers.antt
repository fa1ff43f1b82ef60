use Rattle.std.proofs.Common.{refl}
use Rattle.dia_message.specs.Stream.{stream_from, stream_of}
use Rattle.dia_message.proofs.laws.stream_faults_are_seen_early.Goals as goal

pub returns-clause-version : goal.returns-clause-version
unfolding stream_of stream_from
returns-clause-version c = refl

pub returns-clause-length : goal.returns-clause-length
unfolding stream_of stream_from
returns-clause-length c = refl

pub returns-clause-too_long : goal.returns-clause-too_long
unfolding stream_of stream_from
returns-clause-too_long c = refl
