-- Refusals by their code: that of the view, and that of a body that is no list of AVPs.
use Rattle.std.proofs.Common.{◌≡◌, ℕ, List, Bool, true, false, not, cond, eqb, eq-eqb, Option, None, Result, Ok, Err, refl, sym, ap, ◌∙◌}
use Rattle.dia_avp.specs.declared.avp.RawAvp.{RawAvp}
use Rattle.dia_avp.specs.declared.fault.AvpFault.{AvpFault}
use Rattle.dia_avp.specs.AvpReading.{split_of}
use Rattle.dia_message.specs.declared.message.Message.{Message}
use Rattle.dia_grammar.specs.Profile.{RequestProfile}
use Rattle.cc_view.specs.declared.code.ResultCode.{ResultCode}
use Rattle.cc_view.specs.declared.code.ResultCode.TheVariants.{ApplicationUnsupported, CommandUnsupported, InvalidAvpLength}
use Rattle.cc_view.specs.declared.refusal.Refusal.{Refusal}
use Rattle.cc_view.specs.declared.request.CcRequest.{CcRequest}
use Rattle.cc_view.specs.Refusal.{avps_by, avps_of, refusal_of_octets, refusal_with}
use Rattle.cc_view.specs.RefusalByCode.{failed_in, is_refused_with, refusal_by_code}
use Rattle.cc_view.specs.RequestView.{view_of_list, view_under}
use Rattle.cc_view.specs.ResultNumber.{number_of}

-- the refusal by a code, by what the view and the body are
abbrev by_view : ResultCode → Result CcRequest Refusal → Result (List RawAvp) Refusal → Refusal
by_view code view found = record {
  code = code;
  failed = cond (is_refused_with code view) (failed_in view) (cond (eqb (number_of code) 5014) (failed_in found) None);
}

pub refusal_by_code-view : (profile : RequestProfile) (message : Message) (refusal : Refusal) → view_under profile message ≡ Err refusal → refusal_by_code profile refusal.code message ≡ refusal
refusal_by_code-view profile message refusal e =
    let n = number_of refusal.code in
    let other = cond (eqb n 5014) (failed_in (avps_of message.body)) None in
    ap (λ (view : Result CcRequest Refusal). by_view refusal.code view (avps_of message.body)) e
    ∙ ap (λ (b : Bool). of_refusal refusal (cond b refusal.failed other)) (eq-eqb n n refl)
  where
    of_refusal : Refusal → Option RawAvp → Refusal
    of_refusal refusal failed = record { code = refusal.code; failed = failed }

-- ---- a body that is no list of AVPs

abbrev with_length_code : Option RawAvp → Refusal
with_length_code failed = record { code = InvalidAvpLength; failed = failed }

either : (b : Bool) (failed : Option RawAvp) → cond b failed failed ≡ failed
either true failed = refl
either false failed = refl

abbrev view_from : Bool → Bool → Result CcRequest Refusal → Result CcRequest Refusal
view_from application command view = cond (not application) (Err (refusal_with ApplicationUnsupported)) (cond (not command) (Err (refusal_with CommandUnsupported)) view)

from_header : (application command : Bool) (refusal : Refusal) → by_view InvalidAvpLength (view_from application command (Err refusal)) (Err refusal) ≡ with_length_code refusal.failed
from_header true true refusal = ap with_length_code (either (eqb (number_of refusal.code) 5014) refusal.failed)
from_header true false refusal = refl
from_header false command refusal = refl

length_code : (octets : List ℕ) (s : Result (List RawAvp) AvpFault) (refusal : Refusal) → avps_by octets s ≡ Err refusal → with_length_code refusal.failed ≡ refusal
length_code octets (Ok avps) refusal e = absurd cc
length_code octets (Err fault) refusal e = let same : refusal_of_octets octets fault ≡ refusal = cc in ap (λ (r : Refusal). with_length_code r.failed) (sym same) ∙ same

pub refusal_by_code-body : (profile : RequestProfile) (message : Message) (refusal : Refusal) → avps_of message.body ≡ Err refusal → refusal_by_code profile InvalidAvpLength message ≡ refusal
unfolding view_under
refusal_by_code-body profile message refusal e =
    let application = eqb message.header.application 4 in
    let command = eqb message.header.command 272 in
    ap (λ (found : Result (List RawAvp) Refusal). by_view InvalidAvpLength (view_from application command (view_of_list profile found)) found) e
    ∙ from_header application command refusal
    ∙ length_code message.body (split_of message.body) refusal e
