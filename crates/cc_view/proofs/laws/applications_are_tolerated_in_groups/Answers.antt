use Rattle.std.proofs.Common.{refl}
use Rattle.dia_avp.specs.AvpReading.{split_from, split_of}
use Rattle.dia_grammar.specs.Grammar.{grammar_fault, has_row}
use Rattle.cc_view.specs.RequestView.Counting.{counted, is_alike}
use Rattle.cc_view.proofs.laws.applications_are_tolerated_in_groups.Goals as goal

pub returns-clause-untolerated : goal.returns-clause-untolerated
unfolding counted is_alike grammar_fault has_row split_of split_from
returns-clause-untolerated c = refl

pub returns-clause-missing : goal.returns-clause-missing
unfolding counted is_alike grammar_fault has_row split_of split_from
returns-clause-missing c = refl

pub returns-clause-beside : goal.returns-clause-beside
unfolding counted is_alike grammar_fault has_row split_of split_from
returns-clause-beside c = refl

pub returns-clause-groups : goal.returns-clause-groups
unfolding counted is_alike grammar_fault has_row split_of split_from
returns-clause-groups c = refl
