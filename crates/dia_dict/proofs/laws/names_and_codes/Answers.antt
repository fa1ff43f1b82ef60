use Rattle.dia_dict.proofs.Naming.{one_to_one}
use Rattle.dia_dict.proofs.laws.names_and_codes.Goals as goal

pub returns : goal.returns
returns c = one_to_one
