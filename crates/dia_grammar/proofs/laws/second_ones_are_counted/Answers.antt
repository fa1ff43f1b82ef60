use Rattle.dia_grammar.proofs.Seconds.{single-from_none, none-from_single, second-is}
use Rattle.dia_grammar.proofs.laws.second_ones_are_counted.Goals as goal

pub returns-clause-none : goal.returns-clause-none
returns-clause-none c = λ codes avps. (single-from_none codes avps, none-from_single codes avps)

pub returns-clause-some : goal.returns-clause-some
returns-clause-some c = second-is
