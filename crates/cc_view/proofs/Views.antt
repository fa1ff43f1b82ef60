-- The view of a message, case by case.
use Rattle.std.proofs.Common.{◌≡◌, List, Bool, true, false, not, cond, eqb, eq-eqb, Option, Result, Ok, Err, sym, ap, subst, ◌∙◌}
use Rattle.std.proofs.lemmas.Bool.{ne_eqb}
use Rattle.dia_avp.specs.declared.avp.RawAvp.{RawAvp}
use Rattle.dia_message.specs.declared.message.Message.{Message}
use Rattle.dia_grammar.specs.Profile.{RequestProfile}
use Rattle.cc_view.specs.declared.code.ResultCode.TheVariants.{ApplicationUnsupported, CommandUnsupported, UnableToComply}
use Rattle.cc_view.specs.declared.refusal.Refusal.{Refusal}
use Rattle.cc_view.specs.declared.view.ViewError.{ViewError}
use Rattle.cc_view.specs.declared.view.ViewError.TheVariants.{Refused, OutOfMemory}
use Rattle.cc_view.specs.declared.request.CcRequest.{CcRequest}
use Rattle.cc_view.specs.Answer.Carried.{carries_too_much}
use Rattle.cc_view.specs.RequestView.Content.{content_of}
use Rattle.cc_view.specs.Finding.{Gives, GivesAll, Passes}
use Rattle.cc_view.specs.Refusal.{refusal_with, avps_of, unless_refused}
use Rattle.cc_view.specs.RequestView.{request_refusal, view_of_avps, view_of_list, view_under, IsView}

abbrev view_by : RequestProfile → Bool → Bool → Result (List RawAvp) Refusal → Result CcRequest Refusal
view_by profile application command s = cond (not application) (Err (refusal_with ApplicationUnsupported)) (cond (not command) (Err (refusal_with CommandUnsupported)) (view_of_list profile s))

pub view_of-application : (profile : RequestProfile) (m : Message) → (m.header.application ≡ 4 → ⊥) → view_under profile m ≡ Err (refusal_with ApplicationUnsupported)
unfolding view_under
view_of-application profile m h = ap (λ (b : Bool). view_by profile b (eqb m.header.command 272) (avps_of m.body)) (ne_eqb m.header.application 4 h)

pub view_of-command : (profile : RequestProfile) (m : Message) → m.header.application ≡ 4 → (m.header.command ≡ 272 → ⊥) → view_under profile m ≡ Err (refusal_with CommandUnsupported)
unfolding view_under
view_of-command profile m a h =
    ap (λ (b : Bool). view_by profile b (eqb m.header.command 272) (avps_of m.body)) (eq-eqb m.header.application 4 a)
    ∙ ap (λ (b : Bool). view_by profile true b (avps_of m.body)) (ne_eqb m.header.command 272 h)

pub view_of-list : (profile : RequestProfile) (m : Message) (s : Result (List RawAvp) Refusal) → m.header.application ≡ 4 → m.header.command ≡ 272 → avps_of m.body ≡ s → view_under profile m ≡ view_of_list profile s
unfolding view_under
view_of-list profile m s a c e =
    ap (λ (b : Bool). view_by profile b (eqb m.header.command 272) (avps_of m.body)) (eq-eqb m.header.application 4 a)
    ∙ ap (λ (b : Bool). view_by profile true b (avps_of m.body)) (eq-eqb m.header.command 272 c)
    ∙ ap (view_of_list profile) e

abbrev view_in : List RawAvp → Bool → Option Refusal → Result CcRequest Refusal
view_in avps much refusal = cond much (Err (refusal_with UnableToComply)) (unless_refused refusal (content_of avps))

pub view_of_avps-much : (profile : RequestProfile) (avps : List RawAvp) → carries_too_much avps ≡ true → view_of_avps profile avps ≡ Err (refusal_with UnableToComply)
view_of_avps-much profile avps much = ap (λ (b : Bool). view_in avps b (request_refusal profile avps)) much

pub view_of_avps-few : (profile : RequestProfile) (avps : List RawAvp) (refusal : Option Refusal) → carries_too_much avps ≡ false → request_refusal profile avps ≡ refusal
    → view_of_avps profile avps ≡ unless_refused refusal (content_of avps)
view_of_avps-few profile avps refusal few e = ap (λ (b : Bool). view_in avps b (request_refusal profile avps)) few ∙ ap (view_in avps false) e

-- a refusal that the view has
pub IsView-refused : (view : Result CcRequest Refusal) (e : ViewError) (refusal : Refusal) → e ≡ Refused refusal → view ≡ Err refusal → IsView view (Err e)
IsView-refused view e refusal is h = subst (λ (x : ViewError). IsView view (Err x)) (sym is) h

-- octets that are no list of AVPs
pub IsView-unlisted : (profile : RequestProfile) (view : Result CcRequest Refusal) (found : Result (List RawAvp) Refusal) (e : ViewError) → view ≡ view_of_list profile found → GivesAll found (Err e) → IsView view (Err e)
IsView-unlisted profile view found (Refused refusal) is h = is ∙ ap (view_of_list profile) h
IsView-unlisted profile view found OutOfMemory is h = tt

-- AVPs that a test refuses
pub IsView-tested : (view : Result CcRequest Refusal) (refusal : Option Refusal) (content : Result CcRequest Refusal) (e : ViewError) → view ≡ unless_refused refusal content → Passes refusal (Err e) → IsView view (Err e)
IsView-tested view refusal content (Refused given) is h = is ∙ ap (λ (x : Option Refusal). unless_refused x content) h
IsView-tested view refusal content OutOfMemory is h = tt

-- the content of AVPs that are not refused is the view
pub IsView-content : (view found : Result CcRequest Refusal) (r : Result CcRequest ViewError) → view ≡ found → Gives found r → IsView view r
IsView-content view found (Ok request) is h = is ∙ h
IsView-content view found (Err (Refused refusal)) is h = is ∙ h
IsView-content view found (Err OutOfMemory) is h = tt
