use Rattle.std.proofs.Common.{ℕ, List, [], ◌∷◌, length, sym, ap, ◌∙◌, arith}
use Rattle.dia_base.specs.Codes.{session_id}
use Rattle.cc_view.specs.Answer.Writing.{octets_avp}
use Rattle.cc_view.proofs.Carrying.{length-carried}
use Rattle.cc_view.proofs.Drafts.{OnOk-as, nothing_added}
use Rattle.cc_view.proofs.Sessions.{session_found}
use Rattle.cc_view.proofs.answer.carried.push_session.Goals as goal

pub push_octets-requires : goal.push_octets-requires
push_octets-requires c =
    let short = length-carried c.args.avps.now c.in-Some.session.now c.requires (sym c.in-Some.ensures) in
    omega (arith, short, ap (λ (x : List ℕ). length x) c.as_slice.ensures)

pub returns-in-Some : goal.returns-in-Some
returns-in-Some c =
    OnOk-as _ _ _ _ _ (ap (λ (x : List ℕ). octets_avp session_id x ∷ []) c.as_slice.ensures ∙ ap session_found c.in-Some.ensures) c.push_octets.ensures

pub returns-in-None : goal.returns-in-None
returns-in-None c = nothing_added _ _ (ap session_found (sym c.in-None.ensures))
