use Rattle.std.proofs.Common.{refl}
use Rattle.dia_avp.specs.AvpReading.{split_from, split_of}
use Rattle.dia_grammar.specs.Grammar.{grammar_fault, has_row}
use Rattle.cc_view.specs.RequestView.Counting.{counted, is_alike}
use Rattle.cc_view.proofs.laws.origins_are_tolerated_twice.Goals as goal

pub returns-clause-untolerated : goal.returns-clause-untolerated
unfolding counted is_alike grammar_fault has_row split_of split_from
returns-clause-untolerated c = refl

pub returns-clause-tolerated : goal.returns-clause-tolerated
unfolding counted is_alike grammar_fault has_row split_of split_from
returns-clause-tolerated c = refl

pub returns-clause-other : goal.returns-clause-other
unfolding counted is_alike grammar_fault has_row split_of split_from
returns-clause-other c = refl
