use Rattle.std.proofs.Common.{refl}
use Rattle.dia_grammar.specs.Grammar.{grammar_fault, has_row}
use Rattle.dia_grammar.proofs.laws.codes_of_a_profile_are_known.Goals as goal

pub returns-clause-known : goal.returns-clause-known
unfolding grammar_fault has_row
returns-clause-known c = refl

pub returns-clause-vendor : goal.returns-clause-vendor
unfolding grammar_fault has_row
returns-clause-vendor c = refl

pub returns-clause-hidden : goal.returns-clause-hidden
unfolding grammar_fault has_row
returns-clause-hidden c = refl
