use Rattle.dia_dict.proofs.ReadBack.{value_is_read}
use Rattle.dia_dict.proofs.laws.value_is_read.Goals as goal

pub returns-clause-spelled : goal.returns-clause-spelled
returns-clause-spelled c = λ code value range good. (value_is_read code value range good).0

pub returns-clause-read : goal.returns-clause-read
returns-clause-read c = λ code value range good. (value_is_read code value range good).1
