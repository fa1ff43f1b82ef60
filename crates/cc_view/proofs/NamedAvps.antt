-- The AVP that a refusal names is one of the request's, a missing one, or the one where a list is cut off.
use Rattle.std.proofs.Common.{◌≡◌, ℕ, List, [], ◌∷◌, Bool, true, false, not, cond, eqb, All, Option, Some, None, option_map, Result, Ok, Err, refl, subst}
use Rattle.std.specs.Prelude.{IfErr, IfSome}
use Rattle.std.specs.List.{filter, slice_get}
use Rattle.std.specs.Option.{option_and_then, option_or, unwrap_or}
use Rattle.std.specs.Result.{result_ok}
use Rattle.std.proofs.lemmas.List.Elements.{All-contains_itself, All-filter, All-head, All-nil, All-tail}
use Rattle.std.proofs.lemmas.Option.{get_or_from_slice_get, slice_get_within}
use Rattle.dia_avp.specs.declared.avp.RawAvp.{RawAvp}
use Rattle.dia_avp.specs.declared.fault.AvpFault.{AvpFault}
use Rattle.dia_avp.specs.AvpReading.{split_of}
use Rattle.dia_dict.specs.declared.fault.DictFault.{DictFault}
use Rattle.dia_dict.specs.declared.fault.DictFault.TheVariants as dict
use Rattle.dia_dict.specs.Reading.{reading_fault}
use Rattle.dia_message.specs.declared.message.Message.{Message}
use Rattle.dia_grammar.specs.declared.fault.GrammarFault.{GrammarFault}
use Rattle.dia_grammar.specs.declared.fault.GrammarFault.TheVariants.{Missing, Twice, UnknownM, FirstNotSessionId}
use Rattle.dia_grammar.specs.Grammar.{grammar_fault, is_among, is_of, missing_of, second_of, unknown_of}
use Rattle.dia_base.specs.Codes.{auth_application_id, multiple_services, subscription_id}
use Rattle.dia_grammar.specs.Profile.{RequestProfile}
use Rattle.cc_view.specs.declared.code.ResultCode.{ResultCode}
use Rattle.cc_view.specs.declared.code.ResultCode.TheVariants.{ApplicationUnsupported, AvpOccursTooManyTimes, AvpUnsupported, CommandUnsupported, UnableToComply}
use Rattle.cc_view.specs.declared.refusal.Refusal.{Refusal}
use Rattle.cc_view.specs.declared.request.CcRequest.{CcRequest}
use Rattle.cc_view.specs.Answer.Carried.{carries_too_much}
use Rattle.cc_view.specs.Refusal.{avps_by, avps_of, grammar_refusal, refusal_at, refusal_by_fault, refusal_for, refusal_for_missing, refusal_of_octets, refusal_with, unless_refused}
use Rattle.cc_view.specs.Refusal.FailedAvp.{broken_avp_in, copy_or_least_form, is_copied, least_form}
use Rattle.cc_view.specs.Refusal.FaultyAvps.{Holds, IsFaultOf, IsIn}
use Rattle.cc_view.specs.Refusal.FaultyAvps.Holds.{whole, value}
use Rattle.cc_view.specs.Refusal.FaultyAvps.IsFaultOf.{received, shortened, lacking, cut_off}
use Rattle.cc_view.specs.RequestView.Counting.{applications_inside, counted, vendor_specific_application_id}
use Rattle.cc_view.specs.RequestView.Counts.{members_of}
use Rattle.cc_view.proofs.Counting.{all-if, counted-each}
use Rattle.cc_view.specs.RequestView.{request_refusal, view_under, view_of_list}
use Rattle.cc_view.specs.RequestView.Checking.{command_values, count_codes, fault_refusal, first_refusal, group_refusal, groups_refusal, group_values, inner_group_refusal, inner_refusal, is_units, members_refusal, service_codes, service_members_refusal, service_refusal, subscription_codes, subscription_refusal, tested_in, units_refusal, value_refusal, value_refusal_among, values_refusal}
use Rattle.cc_view.specs.RequestView.Content.{are_within_limits, content_of, request_in, services_in}

abbrev NamesIn : List ℕ → Refusal → Type 0
NamesIn body refusal = IfSome refusal.failed (IsFaultOf body)

abbrev Named : List ℕ → Option Refusal → Type 0
Named body refusal = IfSome refusal (NamesIn body)

-- ---- one AVP

named-copy : (body : List ℕ) (avp : RawAvp) → IsIn body avp → IsFaultOf body (copy_or_least_form avp)
named-copy body avp i = by_length (is_copied avp)
  where
    by_length : (short : Bool) → IsFaultOf body (cond short avp (least_form avp.code avp.flags avp.vendor))
    by_length true = received avp i
    by_length false = shortened avp i

named-place : (body : List ℕ) (code : ResultCode) (avps : List RawAvp) (at : ℕ) (found : Option RawAvp) → All (IsIn body) avps → slice_get avps at ≡ found → Named body (option_map (refusal_for code) found)
named-place body code avps at None each e = tt
named-place body code avps at (Some avp) each e =
    named-copy body avp (subst (IsIn body) (get_or_from_slice_get avps at avp avp e) (each at avp (slice_get_within avps at avp e)))

named-at : (body : List ℕ) (code : ResultCode) (avps : List RawAvp) (place : Option ℕ) → All (IsIn body) avps → Named body (option_and_then (refusal_at code avps) place)
named-at body code avps None each = tt
named-at body code avps (Some at) each = named-place body code avps at (slice_get avps at) each refl

named-octets : (body octets : List ℕ) (fault : AvpFault) → Holds body octets → split_of octets ≡ Err fault → NamesIn body (refusal_of_octets octets fault)
named-octets body octets fault holds e = by_avp (broken_avp_in octets fault) refl
  where
    by_avp : (found : Option RawAvp) → broken_avp_in octets fault ≡ found → IfSome found (IsFaultOf body)
    by_avp (Some avp) is = cut_off octets fault avp holds e is
    by_avp None is = tt

named-fault : (body : List ℕ) (avp : RawAvp) → IsIn body avp → (fault : DictFault) → Named body (fault_refusal avp fault)
named-fault body avp i (dict.BadLength code) = shortened avp i
named-fault body avp i (dict.BadUtf8 code) = named-copy body avp i
named-fault body avp i (dict.BadEnumerated code) = named-copy body avp i
named-fault body avp i (dict.NoRow code) = tt
named-fault body avp i dict.OutOfMemory = tt

-- ---- one test and then another

named-or : (body : List ℕ) (a b : Option Refusal) → Named body a → Named body b → Named body (option_or a b)
named-or body (Some refusal) b p q = p
named-or body None b p q = q

named-if : (body : List ℕ) (b : Bool) (x y : Option Refusal) → Named body x → Named body y → Named body (cond b x y)
named-if body true x y p q = p
named-if body false x y p q = q

named-first : (body : List ℕ) (test : RawAvp → Option Refusal) → ((avp : RawAvp) → IsIn body avp → Named body (test avp)) → (avps : List RawAvp) → All (IsIn body) avps → Named body (first_refusal test avps)
named-first body test holds [] each = tt
named-first body test holds (avp ∷ avps) each =
    named-or body (test avp) (first_refusal test avps) (holds avp (All-head (IsIn body) avp avps each)) (named-first body test holds avps (All-tail (IsIn body) avp avps each))

named-missing : (body : List ℕ) (code : Option ℕ) → Named body (option_map refusal_for_missing code)
named-missing body (Some code) = lacking code
named-missing body None = tt

-- ---- values and groups

named-value : (body : List ℕ) (avp : RawAvp) → IsIn body avp → Named body (value_refusal avp)
unfolding value_refusal
named-value body avp i = by_fault (reading_fault avp)
  where
    by_fault : (fault : Option DictFault) → Named body (option_and_then (fault_refusal avp) fault)
    by_fault (Some fault) = named-fault body avp i fault
    by_fault None = tt

named-values : (body : List ℕ) (codes : List ℕ) (avps : List RawAvp) → All (IsIn body) avps → Named body (values_refusal codes avps)
named-values body codes avps each = named-first body (value_refusal_among codes) (λ avp i. named-if body (is_among codes avp) (value_refusal avp) None (named-value body avp i) tt) avps each

named-members : (body : List ℕ) (profile : RequestProfile) (single required : List ℕ) (avps : List RawAvp) → All (IsIn body) avps → Named body (members_refusal profile single required avps)
named-members body profile single required avps each =
    let unknown = option_and_then (refusal_at AvpUnsupported avps) (unknown_of profile avps) in
    let second = option_and_then (refusal_at AvpOccursTooManyTimes avps) (second_of single avps) in
    let missing = option_map refusal_for_missing (missing_of required avps) in
    let values = values_refusal group_values avps in
    named-or body unknown (option_or second (option_or missing values)) (named-at body AvpUnsupported avps (unknown_of profile avps) each)
    (named-or body second (option_or missing values) (named-at body AvpOccursTooManyTimes avps (second_of single avps) each)
    (named-or body missing values (named-missing body (missing_of required avps)) (named-values body group_values avps each)))

-- the AVPs of octets that are held
members-in : (body octets : List ℕ) (avps : List RawAvp) → Holds body octets → split_of octets ≡ Ok avps → All (IsIn body) avps
members-in body octets avps holds e k d lt =
    record { octets = octets; avps = avps; holds = holds; list = e; among = All-contains_itself avps k d lt }

named-tested : (body : List ℕ) (test : List RawAvp → Option Refusal) → ((avps : List RawAvp) → All (IsIn body) avps → Named body (test avps)) → (octets : List ℕ) (s : Result (List RawAvp) AvpFault)
    → Holds body octets → split_of octets ≡ s → Named body (tested_in test (avps_by octets s))
named-tested body test each octets (Ok avps) holds e = each avps (members-in body octets avps holds e)
named-tested body test each octets (Err fault) holds e = named-octets body octets fault holds e

held : (body : List ℕ) (avp : RawAvp) → IsIn body avp → Holds body avp.value
held body avp i = value i.octets i.avps avp i.holds i.list i.among

named-subscription : (body : List ℕ) (profile : RequestProfile) (avp : RawAvp) → IsIn body avp → Named body (subscription_refusal profile avp)
unfolding subscription_refusal
named-subscription body profile avp i =
    named-tested body (members_refusal profile subscription_codes subscription_codes) (named-members body profile subscription_codes subscription_codes) avp.value (split_of avp.value) (held body avp i) refl

named-units : (body : List ℕ) (profile : RequestProfile) (avp : RawAvp) → IsIn body avp → Named body (units_refusal profile avp)
unfolding units_refusal
named-units body profile avp i = named-tested body (members_refusal profile count_codes []) (named-members body profile count_codes []) avp.value (split_of avp.value) (held body avp i) refl

named-inner : (body : List ℕ) (profile : RequestProfile) (avps : List RawAvp) → All (IsIn body) avps → Named body (inner_refusal profile avps)
named-inner body profile avps each =
    named-first body (inner_group_refusal profile) (λ avp i. named-if body (is_units avp) (units_refusal profile avp) None (named-units body profile avp i) tt) avps each

named-service : (body : List ℕ) (profile : RequestProfile) (avp : RawAvp) → IsIn body avp → Named body (service_refusal profile avp)
unfolding service_refusal
named-service body profile avp i =
    named-tested body (service_members_refusal profile)
    (λ avps each. named-or body (members_refusal profile service_codes [] avps) (inner_refusal profile avps) (named-members body profile service_codes [] avps each) (named-inner body profile avps each))
    avp.value (split_of avp.value) (held body avp i) refl

named-group : (body : List ℕ) (profile : RequestProfile) (avp : RawAvp) → IsIn body avp → Named body (group_refusal profile avp)
named-group body profile avp i =
    let service = cond (is_of multiple_services avp) (service_refusal profile avp) None in
    let units = cond (is_units avp) (units_refusal profile avp) service in
    named-if body (is_of subscription_id avp) (subscription_refusal profile avp) units (named-subscription body profile avp i)
    (named-if body (is_units avp) (units_refusal profile avp) service (named-units body profile avp i)
    (named-if body (is_of multiple_services avp) (service_refusal profile avp) None (named-service body profile avp i) tt))

-- ---- a request

named-grammar : (body : List ℕ) (profile : RequestProfile) (avps : List RawAvp) → All (IsIn body) avps → Named body (grammar_refusal profile avps)
named-grammar body profile avps each = by_fault (grammar_fault profile avps)
  where
    by_fault : (fault : Option GrammarFault) → Named body (option_and_then (refusal_by_fault avps) fault)
    by_fault None = tt
    by_fault (Some (Missing code)) = lacking code
    by_fault (Some FirstNotSessionId) = tt
    by_fault (Some (UnknownM at)) = named-at body AvpUnsupported avps (Some at) each
    by_fault (Some (Twice at)) = named-at body AvpOccursTooManyTimes avps (Some at) each

-- the AVPs in a group, where its value is a list of AVPs
members-named : (body octets : List ℕ) (s : Result (List RawAvp) AvpFault) → Holds body octets → split_of octets ≡ s → All (IsIn body) (unwrap_or (result_ok s) [])
members-named body octets (Ok avps) holds e = members-in body octets avps holds e
members-named body octets (Err fault) holds e = All-nil (IsIn body)

applications-in : (body : List ℕ) (avp : RawAvp) → IsIn body avp → All (IsIn body) (applications_inside avp)
applications-in body avp i =
    all-if (IsIn body) (is_of vendor_specific_application_id avp) (filter (is_of auth_application_id) (members_of avp)) []
    (All-filter (is_of auth_application_id) (IsIn body) (members_of avp) (members-named body avp.value (split_of avp.value) (held body avp i) refl)) (All-nil (IsIn body))

named-request : (body : List ℕ) (profile : RequestProfile) (avps : List RawAvp) → All (IsIn body) avps → Named body (request_refusal profile avps)
named-request body profile avps each =
    let values = values_refusal command_values avps in
    let groups = groups_refusal profile avps in
    named-or body (grammar_refusal profile (counted profile avps)) (option_or values groups)
    (named-grammar body profile (counted profile avps) (counted-each (IsIn body) (applications-in body) profile avps each))
    (named-or body values groups (named-values body command_values avps each) (named-first body (group_refusal profile) (named-group body profile) avps each))

abbrev NamesErr : List ℕ → Result CcRequest Refusal → Type 0
NamesErr body view = IfErr view (NamesIn body)

named-content : (body : List ℕ) (within : Bool) (request : CcRequest) → NamesErr body (cond within (Ok request) (Err (refusal_with UnableToComply)))
named-content body true request = tt
named-content body false request = tt

named-avps : (body : List ℕ) (much : Bool) (refusal : Option Refusal) (content : Result CcRequest Refusal) → Named body refusal → NamesErr body content
    → NamesErr body (cond much (Err (refusal_with UnableToComply)) (unless_refused refusal content))
named-avps body true refusal content p q = tt
named-avps body false (Some refusal) content p q = p
named-avps body false None content p q = q

named-list : (body : List ℕ) (profile : RequestProfile) (s : Result (List RawAvp) AvpFault) → split_of body ≡ s → NamesErr body (view_of_list profile (avps_by body s))
named-list body profile (Err fault) e = named-octets body body fault whole e
named-list body profile (Ok avps) e =
    named-avps body (carries_too_much avps) (request_refusal profile avps) (content_of avps) (named-request body profile avps (members-in body body avps whole e))
    (named-content body (are_within_limits (services_in avps)) (request_in avps))

named-header : (body : List ℕ) (application command : Bool) (view : Result CcRequest Refusal) → NamesErr body view
    → NamesErr body (cond (not application) (Err (refusal_with ApplicationUnsupported)) (cond (not command) (Err (refusal_with CommandUnsupported)) view))
named-header body true true view p = p
named-header body true false view p = tt
named-header body false command view p = tt

named-view : (profile : RequestProfile) (message : Message) → NamesErr message.body (view_under profile message)
unfolding view_under
named-view profile message =
    named-header message.body (eqb message.header.application 4) (eqb message.header.command 272) (view_of_list profile (avps_of message.body)) (named-list message.body profile (split_of message.body) refl)

pub failed-named : (profile : RequestProfile) (message : Message) (refusal : Refusal) → view_under profile message ≡ Err refusal → IfSome refusal.failed (IsFaultOf message.body)
failed-named profile message refusal e = subst (NamesErr message.body) e (named-view profile message)
