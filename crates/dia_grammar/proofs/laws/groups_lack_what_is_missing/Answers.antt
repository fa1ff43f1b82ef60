use Rattle.std.proofs.Common.{refl}
use Rattle.dia_grammar.specs.Grammar.{has_row}
use Rattle.dia_grammar.proofs.laws.groups_lack_what_is_missing.Goals as goal

pub returns-clause-unknown : goal.returns-clause-unknown
unfolding has_row
returns-clause-unknown c = refl
