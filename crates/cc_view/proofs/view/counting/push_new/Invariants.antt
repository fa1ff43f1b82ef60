use Rattle.std.proofs.Common.{◌≡◌, ◌++◌, filter, take}
use Rattle.cc_view.specs.RequestView.Counting.{is_new}
use Rattle.cc_view.proofs.view.counting.push_new.Given as goal

abbrev pub invariant-loop-application : goal.invariant-loop-application
invariant-loop-application l = l.found.items ≡ l.initial.found.items ++ filter (is_new l.own) (take l.application-index l.inner)
