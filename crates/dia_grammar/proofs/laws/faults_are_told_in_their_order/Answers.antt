use Rattle.std.proofs.Common.{refl}
use Rattle.dia_grammar.specs.Grammar.{grammar_fault, has_row}
use Rattle.dia_grammar.proofs.laws.faults_are_told_in_their_order.Goals as goal

pub returns-clause-missing : goal.returns-clause-missing
unfolding grammar_fault has_row
returns-clause-missing c = refl

pub returns-clause-unknown : goal.returns-clause-unknown
unfolding grammar_fault has_row
returns-clause-unknown c = refl

pub returns-clause-vendor : goal.returns-clause-vendor
unfolding grammar_fault has_row
returns-clause-vendor c = refl

pub returns-clause-second : goal.returns-clause-second
unfolding grammar_fault has_row
returns-clause-second c = refl

pub returns-clause-single : goal.returns-clause-single
unfolding grammar_fault has_row
returns-clause-single c = refl
