use Rattle.std.proofs.Common.{rules, [], ◌∷◌, ap}
use Rattle.dia_avp.specs.declared.avp.RawAvp.{RawAvp}
use Rattle.dia_base.specs.Codes.{cc_time}
use Rattle.cc_view.specs.Answer.{unit_avp}
use Rattle.cc_view.specs.Answer.Writing.{u32_avp, u64_avp}
use Rattle.cc_view.proofs.Drafts.{OnOk-as}
use Rattle.cc_view.proofs.Units.{other_unit, unit_of_time}
use Rattle.cc_view.proofs.answer.units.push_unit.Goals as goal

pub returns-then-kind-eq-CC_TIME : goal.returns-then-kind-eq-CC_TIME
returns-then-kind-eq-CC_TIME c =
    let unit = unit_of_time c.args.kind c.args.units c.unwrap_or.result (search rules) (search rules) in
    OnOk-as c.push_u32.result _ _ (u32_avp cc_time c.unwrap_or.result ∷ []) (unit_avp c.args.kind c.args.units ∷ []) (ap (λ (x : RawAvp). x ∷ []) unit) c.push_u32.ensures

pub returns-else-kind-eq-CC_TIME : goal.returns-else-kind-eq-CC_TIME
returns-else-kind-eq-CC_TIME c =
    let unit = other_unit c.args.kind c.args.units (search rules) in
    OnOk-as c.push_u64.result _ _ (u64_avp c.args.kind.0 c.args.units ∷ []) (unit_avp c.args.kind c.args.units ∷ []) (ap (λ (x : RawAvp). x ∷ []) unit) c.push_u64.ensures
