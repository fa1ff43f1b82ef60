use Rattle.std.proofs.Common.{ℕ, List, ◌∷◌, [], ap, ◌∙◌}
use Rattle.dia_avp.specs.declared.avp.RawAvp.{RawAvp}
use Rattle.dia_avp.specs.AvpReading.{split_of}
use Rattle.dia_base.specs.Codes.{result_code}
use Rattle.cc_view.specs.Answer.{origin_part, refusal_avps, refusal_of}
use Rattle.cc_view.specs.Answer.Carried.{carriable_avps, proxies_in, session_in}
use Rattle.cc_view.specs.Answer.Writing.{u32_avp}
use Rattle.cc_view.specs.Refusal.FailedAvp.{failed_part}
use Rattle.cc_view.specs.ResultNumber.{number_of}
use Rattle.cc_view.proofs.Drafts.{added_as, five_added, from_nothing}
use Rattle.cc_view.proofs.Messages.{message_of-same}
use Rattle.cc_view.proofs.refusal.refusal_bytes.Goals as goal

pub returns : goal.returns
unfolding refusal_of
returns g c =
    let host = c.args.node.now in
    let realm = c.args.realm.now in
    let refusal = c.args.refusal.now in
    let from = carriable_avps (split_of c.args.message.now.body) in
    let session = added_as _ _ _ (session_in from) (ap (λ (x : List RawAvp). session_in x) (c.deref.ensures.value ∙ c.in_ok-carried.ensures.value)) c.in_ok-push_session.ensures in
    let code = added_as _ _ _ (u32_avp result_code (number_of refusal.code) ∷ []) (ap (λ (n : ℕ). u32_avp result_code n ∷ []) c.number.ensures) c.in_ok-push_u32.ensures in
    let proxies = added_as _ _ _ (proxies_in from) (ap (λ (x : List RawAvp). proxies_in x) (c.deref-2.ensures.value ∙ c.in_ok-carried.ensures.value)) c.in_ok-push_proxies.ensures in
    let avps = five_added _ _ _ _ _ _ (session_in from) (origin_part host realm) (u32_avp result_code (number_of refusal.code) ∷ []) (failed_part refusal.failed) (proxies_in from)
    session c.in_ok-push_origin.ensures code c.in_ok-push_failed.ensures proxies in
    message_of-same _ _ _ _ c.answer_header.ensures (c.in_ok-finish.ensures ∙ from_nothing _ _ (refusal_avps host realm c.args.message.now refusal) c.in_ok-draft.ensures avps)
