use Rattle.std.proofs.Common.{◌≡◌, ◌++◌, drop}
use Rattle.cc_view.specs.RequestView.Counting.{inner_applications}
use Rattle.cc_view.proofs.view.counting.inner_applications.Given as goal

abbrev pub invariant-loop-avp : goal.invariant-loop-avp
invariant-loop-avp g l = l.found.items ++ inner_applications (drop l.avp-index l.avps) ≡ inner_applications l.avps
