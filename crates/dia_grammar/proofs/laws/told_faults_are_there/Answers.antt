use Rattle.dia_grammar.proofs.Faults.{fault-of}
use Rattle.dia_grammar.proofs.laws.told_faults_are_there.Goals as goal

pub returns : goal.returns
returns c = fault-of
