use Rattle.std.proofs.lemmas.Result.{err_from_is_err_and}
use Rattle.cc_view.specs.RequestView.Checking.{value_refusal_among}
use Rattle.cc_view.proofs.Checks.{Passes-at, first_refusal-more}
use Rattle.cc_view.proofs.view.values.check_values.Goals as goal

pub returns-in_err-check_value_among : goal.returns-in_err-check_value_among
returns-in_err-check_value_among c =
    let p = err_from_is_err_and c.from_residual.result c.from_residual.ensures.1 in
    rw (p.1, p.2) (Passes-at (value_refusal_among c.args.codes.now) c.args.avps.now c.loop-avp.avp-index c.avp-item.result _ c.loop-avp-test.true c.avp-item.is c.loop-avp.invariant c.in_err-check_value_among.ensures)

pub loop-avp-preserved : goal.loop-avp-preserved
loop-avp-preserved c = first_refusal-more (value_refusal_among c.args.codes.now) c.args.avps.now c.loop-avp.avp-index c.avp-item.result c.loop-avp-test.true c.avp-item.is c.loop-avp.invariant c.in_ok-check_value_among.ensures
