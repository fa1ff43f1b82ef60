use Rattle.dia_message.specs.Spelling.{octets_of}
use Rattle.dia_message.proofs.Spelled.{stream_of-spelled, Spells-written}
use Rattle.dia_message.proofs.laws.first_message.Goals as goal

pub returns-clause-spelled : goal.returns-clause-spelled
returns-clause-spelled c = stream_of-spelled

pub returns-clause-written : goal.returns-clause-written
returns-clause-written c = λ message behind h. stream_of-spelled (octets_of message) behind message (Spells-written message h)
