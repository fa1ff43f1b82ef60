use Rattle.dia_grammar.proofs.Shapes.{fault-alike}
use Rattle.dia_grammar.proofs.laws.values_do_not_count.Goals as goal

pub returns : goal.returns
returns c = fault-alike
