use Rattle.std.proofs.Common.{◌≤◌, sym, ◌∙◌, arith}
use Rattle.cc_view.specs.Answer.Carried.{padded_len}
use Rattle.cc_view.proofs.Carrying.{too_much}
use Rattle.cc_view.proofs.answer.carried.carries_too_much.Goals as goal

pub returns-in-None : goal.returns-in-None
returns-in-None c =
    let over : padded_len c.avp-item.result ≤ c.loop-avp.room → ⊥ = c.in-None.ensures in
    too_much c.args.avps.now c.loop-avp.avp-index c.avp-item.result c.loop-avp.room c.loop-avp-test.true c.avp-item.is c.loop-avp.invariant (sym c.is_carried.ensures ∙ c.if-is_carried.true) (omega arith)
