use Rattle.std.proofs.Common.{true, false, sym, ap, ◌∙◌}
use Rattle.dia_avp.specs.AvpReading.{split_of}
use Rattle.cc_view.specs.Answer.Carried.{carries_too_much}
use Rattle.cc_view.proofs.Sessions.{carriable_avps-fault, carriable_avps-by}
use Rattle.cc_view.proofs.Splits.{split-readable, split-unreadable}
use Rattle.cc_view.proofs.answer.carried.carriable_avps.Goals as goal

pub returns-in_default : goal.returns-in_default
returns-in_default g c =
    let fault = split-unreadable c.args.body.now c.split.result c.split.ensures cc in
    record {
      value = c.new.ensures.items ∙ sym (carriable_avps-fault (split_of c.args.body.now) fault.0 fault.1);
      few = ap carries_too_much c.new.ensures.items;
    }

pub returns-then-carries_too_much : goal.returns-then-carries_too_much
returns-then-carries_too_much g c =
    let split = split-readable c.args.body.now c.split.result c.in-Some.avps c.split.ensures cc in
    record {
      value = c.new-then-carries_too_much.ensures.items ∙ sym (carriable_avps-by (split_of c.args.body.now) c.in-Some.avps.items true split (ap carries_too_much (sym c.deref.ensures.value) ∙ sym c.if-carries_too_much.ensures));
      few = ap carries_too_much c.new-then-carries_too_much.ensures.items;
    }

pub returns : goal.returns
returns g c =
    let split = split-readable c.args.body.now c.split.result c.in-Some.avps c.split.ensures cc in
    let few = ap carries_too_much (sym c.deref.ensures.value) ∙ sym c.if-carries_too_much.ensures in
    record { value = sym (carriable_avps-by (split_of c.args.body.now) c.in-Some.avps.items false split few); few = few }
