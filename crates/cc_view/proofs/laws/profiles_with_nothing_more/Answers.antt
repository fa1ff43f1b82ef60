use Rattle.std.proofs.Common.{refl}
use Rattle.dia_grammar.specs.Profile.{strict}
use Rattle.cc_view.specs.RequestView.{view_of}
use Rattle.cc_view.proofs.Counting.{counted-nothing}
use Rattle.cc_view.proofs.laws.profiles_with_nothing_more.Goals as goal

pub returns-clause-counted : goal.returns-clause-counted
returns-clause-counted c = λ vendors avps. counted-nothing (strict vendors) avps refl

pub returns-clause-view : goal.returns-clause-view
unfolding view_of
returns-clause-view c = λ vendors message. refl
