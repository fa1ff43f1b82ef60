use Rattle.std.proofs.Common.{ℕ, [], ◌∷◌, ◌++◌, ap}
use Rattle.dia_base.specs.Codes.{auth_application_id, cc_request_number, cc_request_type, credit_control_application, result_code}
use Rattle.cc_view.specs.Answer.{failover_part, origin_part, session_part}
use Rattle.cc_view.specs.Answer.Writing.{u32_avp}
use Rattle.cc_view.specs.Request.Number.{kind_number}
use Rattle.cc_view.specs.ResultNumber.{number_of}
use Rattle.cc_view.proofs.Drafts.{added_as, added_behind, six_added}
use Rattle.cc_view.proofs.answer.push_command.Goals as goal

pub returns : goal.returns
returns c =
    let request = c.args.request.now in
    let session = session_part request.session in
    let code = u32_avp result_code (number_of c.args.code) ∷ [] in
    let origin = origin_part c.args.front.now c.args.realm.now in
    let application = u32_avp auth_application_id credit_control_application ∷ [] in
    let kind = u32_avp cc_request_type (kind_number request.kind) ∷ [] in
    let number = u32_avp cc_request_number request.number ∷ [] in
    added_behind _ _ _ _ (session ++ code ++ origin ++ application ++ kind ++ number) (failover_part request.kind c.args.code)
    (six_added _ _ _ _ _ _ _ session code origin application kind number c.in_ok-push_session.ensures
    (added_as _ _ _ code (ap (λ (n : ℕ). u32_avp result_code n ∷ []) c.number.ensures) c.in_ok-push_u32.ensures)
    c.in_ok-push_origin.ensures c.in_ok-push_u32-2.ensures
    (added_as _ _ _ kind (ap (λ (n : ℕ). u32_avp cc_request_type n ∷ []) c.number-2.ensures) c.in_ok-push_u32-3.ensures)
    c.in_ok-push_u32-4.ensures)
    c.push_failover.ensures
