use Rattle.std.proofs.Common.{refl}
use Rattle.dia_grammar.specs.Grammar.{grammar_fault, has_row}
use Rattle.dia_grammar.proofs.laws.session_ids_come_first.Goals as goal

pub returns-clause-session : goal.returns-clause-session
unfolding grammar_fault has_row
returns-clause-session c = refl

pub returns-clause-required : goal.returns-clause-required
unfolding grammar_fault has_row
returns-clause-required c = refl
