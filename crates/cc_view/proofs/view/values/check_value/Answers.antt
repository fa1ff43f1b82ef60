use Rattle.std.proofs.Common.{Option, sym, ap, subst}
use Rattle.std.specs.Option.{option_and_then}
use Rattle.dia_dict.specs.declared.fault.DictFault.{DictFault}
use Rattle.cc_view.specs.Finding.{Passes}
use Rattle.cc_view.specs.RequestView.Checking.{fault_refusal, value_refusal}
use Rattle.cc_view.proofs.view.values.check_value.Goals as goal

pub returns-in-Some : goal.returns-in-Some
unfolding value_refusal
returns-in-Some c =
    let avp = c.args.avp.now in
    subst (λ (o : Option DictFault). Passes (option_and_then (fault_refusal avp) o) c.refuse_fault.result) c.in-Some.ensures c.refuse_fault.ensures

pub returns-in-None : goal.returns-in-None
unfolding value_refusal
returns-in-None c = ap (option_and_then (fault_refusal c.args.avp.now)) (sym c.in-None.ensures)
