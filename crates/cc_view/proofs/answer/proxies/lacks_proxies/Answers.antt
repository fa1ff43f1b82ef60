use Rattle.std.proofs.Common.{◌≢◌, ◌∙◌, arith, length, eqb-true, sym}
use Rattle.std.proofs.lemmas.List.{nil_from_length}
use Rattle.dia_avp.proofs.Reading.{BeginsWith-shorter}
use Rattle.dia_avp.specs.AvpList.{code_in}
use Rattle.dia_avp.specs.LentAvp.{avp_of}
use Rattle.dia_base.specs.Codes.{proxy_info}
use Rattle.cc_view.proofs.Proxies.{keeps-all, keeps-next, lacks}
use Rattle.cc_view.proofs.answer.proxies.lacks_proxies.Goals as goal

pub loop-avp-init : goal.loop-avp-init
loop-avp-init c = record { within = omega arith; keeps = keeps-all c.args.octets.now }

pub loop-avp-preserved : goal.loop-avp-preserved
loop-avp-preserved c =
    let rest = c.loop-avp.rest.now in
    let found = c.in-Ok.ensures.found in
    let shorter = BeginsWith-shorter rest (avp_of c.in-Ok.avp) c.in-Ok.behind.now found in
    let other : code_in rest ≢ proxy_info = λ e. c.if-avp-eq-PROXY_INFO.false (found.code ∙ e) in
    record { within = omega arith; keeps = keeps-next c.args.octets.now rest c.in-Ok.behind.now c.loop-avp.invariant.keeps found.header other found.behind }

pub returns : goal.returns
returns c = λ e. lacks c.args.octets.now c.loop-avp.rest.now c.loop-avp.invariant.keeps (nil_from_length c.loop-avp.rest.now (eqb-true (length c.loop-avp.rest.now) 0 (sym c.is_empty.ensures ∙ e)))
