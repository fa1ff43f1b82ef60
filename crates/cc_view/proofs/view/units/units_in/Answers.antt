use Rattle.std.proofs.Common.{arith}
use Rattle.std.proofs.lemmas.Result.{err_from_is_err_and}
use Rattle.dia_grammar.specs.Profile.{profile_of}
use Rattle.cc_view.specs.RequestView.Checking.{inner_group_refusal}
use Rattle.cc_view.proofs.Checks.{Passes-at, first_refusal-more}
use Rattle.cc_view.proofs.Reading.{units-more}
use Rattle.cc_view.proofs.view.units.units_in.Goals as goal

pub returns-in_err-units : goal.returns-in_err-units
returns-in_err-units g c =
    let p = err_from_is_err_and c.from_residual.result c.from_residual.ensures.1 in
    rw (p.1, p.2)
    (Passes-at (inner_group_refusal (profile_of c.args.profile)) c.args.avps.now c.loop-avp.avp-index c.avp-item.result c.in_err-units.field-0.0 c.loop-avp-test.true c.avp-item.is c.loop-avp.invariant.passed c.in_err-units.ensures.read)

pub loop-avp-preserved : goal.loop-avp-preserved
loop-avp-preserved g c =
    let test = inner_group_refusal (profile_of c.args.profile) in
    let avps = c.args.avps.now in
    let at = c.loop-avp.avp-index in
    let item = c.avp-item.result in
    let read = c.in_ok-units.ensures.read in
    let most = c.in_ok-units.ensures.most in
    record {
      passed = first_refusal-more test avps at item c.loop-avp-test.true c.avp-item.is c.loop-avp.invariant.passed read.0;
      units = units-more avps at item c.loop-avp.units c.in_ok-units.units c.loop-avp-test.true c.avp-item.is c.loop-avp.invariant.units read.1;
      time = omega (arith, most.time);
      octets = omega (arith, most.octets);
      specific = omega (arith, most.specific);
    }
