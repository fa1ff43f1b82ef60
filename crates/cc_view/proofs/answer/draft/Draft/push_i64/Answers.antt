use Rattle.std.proofs.Common.{rules, List, ℕ, ℤ, w64, [], ◌∷◌, ap, ◌∙◌}
use Rattle.std.proofs.lemmas.Int.{to_z-of_z}
use mir.Val.{SFits}
use Rattle.cc_view.specs.Answer.Writing.{i64_avp, octets_avp}
use Rattle.cc_view.proofs.Drafts.{OnOk-as}
use Rattle.cc_view.proofs.answer.draft.Draft.push_i64.Goals as goal

pub returns : goal.returns
returns c =
    let code = c.args.code in
    let fits : SFits w64 c.args.z = search rules in
    OnOk-as c.push_octets.result _ _ (octets_avp code c.write_i64.new.buf ∷ []) (i64_avp code c.args.z ∷ [])
    (ap (λ (x : List ℕ). octets_avp code x ∷ []) c.write_i64.ensures ∙ ap (λ (z : ℤ). i64_avp code z ∷ []) (to_z-of_z w64 c.args.z fits))
    c.push_octets.ensures
