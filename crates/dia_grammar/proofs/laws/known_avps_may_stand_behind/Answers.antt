use Rattle.std.proofs.Common.{refl}
use Rattle.dia_grammar.specs.Grammar.{grammar_fault, has_row}
use Rattle.dia_grammar.proofs.laws.known_avps_may_stand_behind.Goals as goal

pub returns-clause-kinds : goal.returns-clause-kinds
unfolding grammar_fault has_row
returns-clause-kinds c = refl

pub returns-clause-others : goal.returns-clause-others
unfolding grammar_fault has_row
returns-clause-others c = refl
