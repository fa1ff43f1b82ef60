use Rattle.std.proofs.Common.{rules, ◌≡◌, ◌≢◌, ◌||◌, [], arith, length}
use Rattle.std.proofs.lemmas.List.{nil_from_length}
use Rattle.dia_avp.proofs.Reading.{BeginsWith-shorter}
use Rattle.dia_avp.specs.LentAvp.{avp_of}
use Rattle.relay_routes.specs.Routing.{is_record_of}
use Rattle.relay_routes.proofs.Loops.{named_all, named_begun, named_more, named_nobody, named_once}
use Rattle.relay_routes.proofs.loop_check.loops.Goals as goal

pub loop-rest-init : goal.loop-rest-init
loop-rest-init c = record { within = omega arith; asked = named_begun c.args.me.now c.args.octets.now }

pub returns-in_default : goal.returns-in_default
returns-in_default c =
    let some : c.loop-rest.rest.now ≢ [] = search rules in
    named_nobody c.args.me.now c.args.octets.now c.loop-rest.rest.now c.loop-rest.named c.front_of.result c.in_default.field-0 c.loop-rest.invariant.asked some c.in_default.is c.front_of.ensures.fault

pub loop-rest-preserved-then-named : goal.loop-rest-preserved-then-named
loop-rest-preserved-then-named c =
    let rest = c.loop-rest.rest.now in
    let behind = c.in-Ok.behind.now in
    let found = c.in-Ok.ensures.found in
    let shorter = BeginsWith-shorter rest (avp_of c.in-Ok.avp) behind found in
    let named = named_once c.loop-rest.named (is_record_of c.args.me.now (avp_of c.in-Ok.avp)) c.if-named.true in
    record { within = omega arith; asked = named_more c.args.me.now c.args.octets.now rest behind (avp_of c.in-Ok.avp) c.loop-rest.named c.loop-rest.named c.loop-rest.invariant.asked found named }

pub loop-rest-preserved : goal.loop-rest-preserved
loop-rest-preserved c =
    let rest = c.loop-rest.rest.now in
    let behind = c.in-Ok.behind.now in
    let found = c.in-Ok.ensures.found in
    let shorter = BeginsWith-shorter rest (avp_of c.in-Ok.avp) behind found in
    let named : c.is_record-named.result ≡ (c.loop-rest.named || is_record_of c.args.me.now (avp_of c.in-Ok.avp)) = search rules in
    record { within = omega arith; asked = named_more c.args.me.now c.args.octets.now rest behind (avp_of c.in-Ok.avp) c.loop-rest.named c.is_record-named.result c.loop-rest.invariant.asked found named }

pub returns : goal.returns
returns c =
    let none : length c.loop-rest.rest.now ≡ 0 = search rules in
    named_all c.args.me.now c.args.octets.now c.loop-rest.rest.now c.loop-rest.named c.loop-rest.invariant.asked (nil_from_length c.loop-rest.rest.now none)
