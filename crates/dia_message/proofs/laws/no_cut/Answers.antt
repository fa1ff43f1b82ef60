use Rattle.dia_message.proofs.Cutting.{stream_of-append, stream_of-append_fault}
use Rattle.dia_message.proofs.Pieces.{given-concat}
use Rattle.dia_message.proofs.laws.no_cut.Goals as goal

pub returns-clause-cut : goal.returns-clause-cut
returns-clause-cut c = stream_of-append

pub returns-clause-fault : goal.returns-clause-fault
returns-clause-fault c = stream_of-append_fault

pub returns-clause-pieces : goal.returns-clause-pieces
returns-clause-pieces c = given-concat
