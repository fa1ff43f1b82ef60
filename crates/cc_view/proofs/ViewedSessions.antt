-- The Session-Id of a view is the first of its message, and short.
use Rattle.std.proofs.Common.{◌≡◌, ℕ, ◌+◌, ◌≤◌, List, [], ◌∷◌, length, Bool, true, false, not, cond, eqb, Option, Some, None, Result, Ok, Err, find, refl, ap, ◌∙◌, arith, lit≤}
use Rattle.std.proofs.lemmas.Bool.{le-leb}
use Rattle.dia_avp.specs.declared.avp.RawAvp.{RawAvp}
use Rattle.dia_avp.specs.declared.fault.AvpFault.{AvpFault}
use Rattle.dia_avp.specs.AvpReading.{split_of}
use Rattle.dia_message.specs.declared.message.Message.{Message}
use Rattle.dia_grammar.specs.Profile.{RequestProfile}
use Rattle.cc_view.specs.declared.code.ResultCode.TheVariants.{ApplicationUnsupported, CommandUnsupported, UnableToComply}
use Rattle.cc_view.specs.declared.refusal.Refusal.{Refusal}
use Rattle.cc_view.specs.declared.request.CcRequest.{CcRequest}
use Rattle.cc_view.specs.Answer.{session_part}
use Rattle.dia_grammar.specs.Grammar.{is_of}
use Rattle.cc_view.specs.Answer.Carried.{carries_too_much}
use Rattle.dia_base.specs.Codes.{session_id}
use Rattle.cc_view.specs.RequestView.Content.{are_within_limits, content_of, octets_in, request_in, services_in}
use Rattle.cc_view.specs.Refusal.{refusal_with, avps_by, avps_of, unless_refused}
use Rattle.cc_view.specs.RequestView.{Asks, request_refusal, view_of_list, view_under}
use Rattle.cc_view.specs.Answer.Writing.{octets_avp}
use Rattle.cc_view.proofs.Carrying.{length-carried}

-- what is read where nothing is refused
pub unrefused : (much : Bool) (refusal : Option Refusal) (found : Result CcRequest Refusal) (request : CcRequest)
    → cond much (Err (refusal_with UnableToComply)) (unless_refused refusal found) ≡ Ok request → (much ≡ false) × (found ≡ Ok request)
unrefused true refusal found request e = absurd cc
unrefused false (Some given) found request e = absurd cc
unrefused false None found request e = (refl, e)

within : (limits : Bool) (content request : CcRequest) → cond limits (Ok content) (Err (refusal_with UnableToComply)) ≡ Ok request → content ≡ request
within true content request e = cc
within false content request e = absurd cc

short_found : (avps : List RawAvp) (found : Option RawAvp) → carries_too_much avps ≡ false → find (is_of session_id) avps ≡ found → 8 + length (octets_in session_id avps) ≤ 49152
short_found avps (Some avp) few e =
    let short : 8 + length avp.value ≤ 49152 = length-carried avps avp few e in
    rw e short
short_found avps None few e = rw e (lit≤ tt)

short_session : (profile : RequestProfile) (s : Result (List RawAvp) Refusal) (request : CcRequest) → view_of_list profile s ≡ Ok request → 8 + length request.session ≤ 49152
short_session profile (Err refusal) request e = absurd cc
short_session profile (Ok avps) request e =
    let parts = unrefused (carries_too_much avps) (request_refusal profile avps) (content_of avps) request e in
    let same : request_in avps ≡ request = within (are_within_limits (services_in avps)) (request_in avps) request parts.1 in
    let short : 8 + length (octets_in session_id avps) ≤ 49152 = short_found avps (find (is_of session_id) avps) parts.0 refl in
    omega (arith, ap (λ (r : CcRequest). length r.session) same)

pub viewed : (profile : RequestProfile) (application command : Bool) (s : Result (List RawAvp) Refusal) (request : CcRequest)
    → cond (not application) (Err (refusal_with ApplicationUnsupported)) (cond (not command) (Err (refusal_with CommandUnsupported)) (view_of_list profile s)) ≡ Ok request → view_of_list profile s ≡ Ok request
viewed profile true true s request e = e
viewed profile true false s request e = absurd cc
viewed profile false command s request e = absurd cc

-- the Session-Id of what was viewed is written
pub session_part-viewed : (profile : RequestProfile) (m : Message) (request : CcRequest) → view_under profile m ≡ Ok request → session_part request.session ≡ octets_avp session_id request.session ∷ []
unfolding view_under
session_part-viewed profile m request e =
    let short : 8 + length request.session ≤ 49152 = short_session profile (avps_of m.body) request (viewed profile (eqb m.header.application 4) (eqb m.header.command 272) (avps_of m.body) request e) in
    ap (λ (b : Bool). cond b (octets_avp session_id request.session ∷ []) []) (le-leb (length request.session) 49144 (omega arith))

listed_avps : (profile : RequestProfile) (body : List ℕ) (request : CcRequest) (s : Result (List RawAvp) AvpFault) → split_of body ≡ s → view_of_list profile (avps_by body s) ≡ Ok request
    → (avps : List RawAvp) × (split_of body ≡ Ok avps) × (carries_too_much avps ≡ false) × (request_in avps ≡ request)
listed_avps profile body request (Err fault) is e = absurd cc
listed_avps profile body request (Ok avps) is e =
    let parts = unrefused (carries_too_much avps) (request_refusal profile avps) (content_of avps) request e in
    (avps, is, parts.0, within (are_within_limits (services_in avps)) (request_in avps) request parts.1)

-- what was viewed is the content of AVPs that may all be carried
pub viewed_avps : (profile : RequestProfile) (m : Message) (request : CcRequest) → view_under profile m ≡ Ok request
    → (avps : List RawAvp) × (split_of m.body ≡ Ok avps) × (carries_too_much avps ≡ false) × (request_in avps ≡ request)
unfolding view_under
viewed_avps profile m request e =
    listed_avps profile m.body request (split_of m.body) refl (viewed profile (eqb m.header.application 4) (eqb m.header.command 272) (avps_of m.body) request e)

listed_asks : (profile : RequestProfile) (body : List ℕ) (request : CcRequest) (s : Result (List RawAvp) AvpFault) → split_of body ≡ s → view_of_list profile (avps_by body s) ≡ Ok request
    → (avps : List RawAvp) × (split_of body ≡ Ok avps) × (content_of avps ≡ Ok request)
listed_asks profile body request (Err fault) is e = absurd cc
listed_asks profile body request (Ok avps) is e = (avps, is, (unrefused (carries_too_much avps) (request_refusal profile avps) (content_of avps) request e).1)

-- whatever the profile, what was viewed is the content of the AVPs as they came
pub asked_avps : (profile : RequestProfile) (m : Message) (request : CcRequest) → view_under profile m ≡ Ok request → Asks m request
unfolding view_under
asked_avps profile m request e =
    listed_asks profile m.body request (split_of m.body) refl (viewed profile (eqb m.header.application 4) (eqb m.header.command 272) (avps_of m.body) request e)

same_list : (split : Result (List RawAvp) AvpFault) (avps others : List RawAvp) → split ≡ Ok avps → split ≡ Ok others → avps ≡ others
same_list split avps others e f = cc

same_content : (found : Result CcRequest Refusal) (request content : CcRequest) → found ≡ Ok request → found ≡ Ok content → request ≡ content
same_content found request content e f = cc

pub asked_alike : (profile other : RequestProfile) (m : Message) (request content : CcRequest) → view_under profile m ≡ Ok request → view_under other m ≡ Ok content → request ≡ content
asked_alike profile other m request content e f =
    let asked = asked_avps profile m request e in
    let again = asked_avps other m content f in
    same_content (content_of asked.0) request content asked.2 (ap content_of (same_list (split_of m.body) asked.0 again.0 asked.1 again.1) ∙ again.2)
