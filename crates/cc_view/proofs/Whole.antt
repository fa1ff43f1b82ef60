-- What is accepted is a request, as its AVPs are counted.
use Rattle.std.proofs.Common.{◌≡◌, ℕ, ◌+◌, eqb, List, ◌∷◌, ◌++◌, length, get_or, Option, Some, None, option_map, Result, Ok, Err, refl, ap, sym, ◌∙◌, arith, length-append}
use Rattle.std.specs.Option.{option_and_then, option_or}
use Rattle.std.proofs.lemmas.Option.{slice_get-get_or}
use Rattle.dia_avp.specs.declared.avp.RawAvp.{RawAvp}
use Rattle.dia_avp.specs.declared.fault.AvpFault.{AvpFault}
use Rattle.dia_avp.specs.AvpReading.{split_of}
use Rattle.dia_message.specs.declared.message.Message.{Message}
use Rattle.dia_grammar.specs.declared.fault.GrammarFault.{GrammarFault}
use Rattle.dia_grammar.specs.declared.fault.GrammarFault.TheVariants.{Missing, Twice, UnknownM, FirstNotSessionId}
use Rattle.dia_grammar.specs.Profile.{RequestProfile}
use Rattle.dia_grammar.specs.Grammar.{grammar_fault, single_codes}
use Rattle.dia_grammar.specs.Request.{IsRequest, IsSecondAt, IsUnknownAt}
use Rattle.dia_grammar.proofs.Faults.{fault-of}
use Rattle.dia_grammar.proofs.Requests.{request-from_none}
use Rattle.cc_view.specs.declared.code.ResultCode.{ResultCode}
use Rattle.cc_view.specs.declared.code.ResultCode.TheVariants.{AvpOccursTooManyTimes, AvpUnsupported}
use Rattle.cc_view.specs.declared.request.CcRequest.{CcRequest}
use Rattle.cc_view.specs.Answer.Carried.{carries_too_much}
use Rattle.cc_view.specs.Refusal.{avps_by, avps_of, grammar_refusal, refusal_at, refusal_by_fault, refusal_for}
use Rattle.cc_view.specs.RequestView.{IsWhole, request_refusal, view_of_list, view_under}
use Rattle.cc_view.specs.RequestView.Checking.{command_values, groups_refusal, values_refusal}
use Rattle.cc_view.specs.RequestView.Content.{content_of}
use Rattle.cc_view.specs.RequestView.Counting.{counted}
use Rattle.cc_view.proofs.Readable.{none-first, not_refused}
use Rattle.cc_view.proofs.ViewedSessions.{viewed}

named_there : (code : ResultCode) (avps before behind : List RawAvp) (avp : RawAvp) (at : ℕ) → avps ≡ before ++ avp ∷ behind → length before ≡ at → refusal_at code avps at ≡ None → ⊥
named_there code avps before behind avp at parts place e =
    let long : length avps ≡ length before + length (avp ∷ behind) = ap length parts ∙ length-append before (avp ∷ behind) in
    let none : Some (refusal_for code (get_or avps at avp)) ≡ None = sym (ap (option_map (refusal_for code)) (slice_get-get_or avps at avp (omega arith))) ∙ e in
    absurd cc

no_fault : (profile : RequestProfile) (avps : List RawAvp) (fault : Option GrammarFault) → grammar_fault profile avps ≡ fault → option_and_then (refusal_by_fault avps) fault ≡ None → fault ≡ None
no_fault profile avps None is e = refl
no_fault profile avps (Some (Missing code)) is e = absurd cc
no_fault profile avps (Some FirstNotSessionId) is e = absurd cc
no_fault profile avps (Some (UnknownM at)) is e =
    let fault : IsUnknownAt profile avps at = fault-of profile avps (UnknownM at) is in
    absurd (named_there AvpUnsupported avps fault.before fault.behind fault.avp at fault.parts fault.place e)
no_fault profile avps (Some (Twice at)) is e =
    let fault : IsSecondAt single_codes avps at = fault-of profile avps (Twice at) is in
    absurd (named_there AvpOccursTooManyTimes avps fault.before fault.behind fault.avp at fault.parts fault.place e)

whole_avps : (profile : RequestProfile) (body : List ℕ) (request : CcRequest) (s : Result (List RawAvp) AvpFault) → split_of body ≡ s → view_of_list profile (avps_by body s) ≡ Ok request
    → (avps : List RawAvp) × (split_of body ≡ Ok avps) × IsRequest profile (counted profile avps)
whole_avps profile body request (Err fault) is e = absurd cc
whole_avps profile body request (Ok avps) is e =
    let found = counted profile avps in
    let none : request_refusal profile avps ≡ None = not_refused (request_refusal profile avps) (content_of avps) request (carries_too_much avps) e in
    let passed : grammar_refusal profile found ≡ None = none-first (grammar_refusal profile found) (option_or (values_refusal command_values avps) (groups_refusal profile avps)) none in
    (avps, is, request-from_none profile found (no_fault profile found (grammar_fault profile found) refl passed))

pub viewed-whole : (profile : RequestProfile) (message : Message) (request : CcRequest) → view_under profile message ≡ Ok request → IsWhole profile message
unfolding view_under
viewed-whole profile message request e =
    whole_avps profile message.body request (split_of message.body) refl
    (viewed profile (eqb message.header.application 4) (eqb message.header.command 272) (avps_of message.body) request e)
