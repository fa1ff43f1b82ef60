use Rattle.std.proofs.Common.{sym, ◌∙◌, arith}
use Rattle.cc_view.proofs.Carrying.{padded_len-carried, proxy_is_carried}
use Rattle.cc_view.proofs.answer.carried.push_proxies.Goals as goal

pub push_copy-requires : goal.push_copy-requires
push_copy-requires c =
    let avp = c.avp-item.result in
    let carried = proxy_is_carried avp (sym c.is_of.ensures ∙ c.if-is_of.true) in
    omega (arith, padded_len-carried c.args.avps.now c.loop-avp.avp-index avp c.loop-avp-test.true c.avp-item.is c.requires carried)
