use Rattle.std.proofs.Common.{◌+◌, List, ◌++◌, drop, ap, ◌∙◌}
use Rattle.dia_avp.specs.declared.avp.RawAvp.{RawAvp}
use Rattle.cc_view.specs.RequestView.Counting.{inner_applications}
use Rattle.cc_view.proofs.Counting.{inner-more}
use Rattle.cc_view.proofs.view.counting.inner_applications.Goals as goal

pub loop-avp-preserved : goal.loop-avp-preserved
loop-avp-preserved g c =
    let avps = c.args.avps.now in
    ap (λ (xs : List RawAvp). xs ++ inner_applications (drop (c.loop-avp.avp-index + 1) avps)) c.in_ok-push_inside.ensures
    ∙ inner-more avps c.loop-avp.found.items (inner_applications avps) c.loop-avp.avp-index c.avp-item.result c.loop-avp-test.true c.avp-item.is c.loop-avp.invariant
