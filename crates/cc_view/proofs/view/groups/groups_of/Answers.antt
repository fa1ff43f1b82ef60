use Rattle.std.proofs.Common.{arith}
use Rattle.std.proofs.lemmas.Result.{err_from_is_err_and}
use Rattle.dia_grammar.specs.Profile.{profile_of}
use Rattle.cc_view.specs.RequestView.Checking.{group_refusal}
use Rattle.cc_view.proofs.Checks.{Passes-at, first_refusal-more}
use Rattle.cc_view.proofs.Reading.{groups-more}
use Rattle.cc_view.proofs.view.groups.groups_of.Goals as goal

pub returns-in_err-group : goal.returns-in_err-group
returns-in_err-group g c =
    let p = err_from_is_err_and c.from_residual.result c.from_residual.ensures.1 in
    rw (p.1, p.2)
    (Passes-at (group_refusal (profile_of c.args.profile)) c.args.avps.now c.loop-avp.avp-index c.avp-item.result c.in_err-group.field-0.0 c.loop-avp-test.true c.avp-item.is c.loop-avp.invariant.passed c.in_err-group.ensures)

pub loop-avp-preserved : goal.loop-avp-preserved
loop-avp-preserved g c =
    let test = group_refusal (profile_of c.args.profile) in
    let avps = c.args.avps.now in
    let at = c.loop-avp.avp-index in
    let item = c.avp-item.result in
    let read = c.in_ok-group.ensures in
    let added = c.in_ok-add.ensures in
    record {
      passed = first_refusal-more test avps at item c.loop-avp-test.true c.avp-item.is c.loop-avp.invariant.passed read.0;
      groups =
          groups-more avps at item c.in_ok-group.group c.loop-avp.groups c.add.new.self c.loop-avp-test.true c.avp-item.is c.loop-avp.invariant.groups read.1 added.subscriptions added.services added.units;
      time = omega (arith, added.most.time);
      octets = omega (arith, added.most.octets);
      specific = omega (arith, added.most.specific);
    }
