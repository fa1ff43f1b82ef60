use Rattle.std.proofs.Common.{◌≡◌, take, None}
use Rattle.cc_view.specs.RequestView.Checking.{first_refusal, value_refusal_among}
use Rattle.cc_view.proofs.view.values.check_values.Given as goal

abbrev pub invariant-loop-avp : goal.invariant-loop-avp
invariant-loop-avp l = first_refusal (value_refusal_among l.codes) (take l.avp-index l.avps) ≡ None
