-- The AVP that a refusal names takes at most 8,192 octets.
use Rattle.std.proofs.Common.{◌≡◌, ℕ, ◌≤◌, List, [], ◌∷◌, Bool, true, false, not, cond, eqb, Option, Some, None, option_map, Result, Ok, Err, refl, subst, arith, lit≤}
use Rattle.std.specs.Prelude.{IfErr, IfSome}
use Rattle.std.specs.List.{slice_get}
use Rattle.std.specs.Option.{option_and_then, option_or}
use Rattle.std.specs.Result.{result_err}
use Rattle.std.proofs.lemmas.Bool.{leb-true}
use Rattle.std.proofs.lemmas.List.{length-replicate}
use Rattle.dia_avp.specs.declared.avp.RawAvp.{RawAvp}
use Rattle.dia_avp.specs.declared.fault.AvpFault.{AvpFault}
use Rattle.dia_avp.specs.declared.fault.AvpFault.TheVariants.{ShortHeader, LengthTooSmall, Overrun, TooLong, TooDeep, OutOfMemory}
use Rattle.dia_avp.specs.AvpList.{has_vendor, length_of}
use Rattle.dia_avp.specs.AvpReading.{split_of}
use Rattle.dia_dict.specs.declared.fault.DictFault.{DictFault}
use Rattle.dia_dict.specs.declared.fault.DictFault.TheVariants as dict
use Rattle.dia_dict.specs.declared.row.Kind.{Kind}
use Rattle.dia_dict.specs.declared.row.Kind.TheVariants.{Unsigned32, Unsigned64, Integer32, Integer64, Time, Enumerated, Utf8String, DiameterIdentity, OctetString, Address, Grouped}
use Rattle.dia_dict.specs.Reading.{reading_of}
use Rattle.dia_message.specs.declared.message.Message.{Message}
use Rattle.dia_grammar.specs.declared.fault.GrammarFault.{GrammarFault}
use Rattle.dia_grammar.specs.declared.fault.GrammarFault.TheVariants.{Missing, Twice, UnknownM, FirstNotSessionId}
use Rattle.dia_grammar.specs.Grammar.{grammar_fault, is_among, is_of, missing_of, second_of, unknown_of}
use Rattle.dia_grammar.specs.Profile.{RequestProfile}
use Rattle.cc_view.specs.declared.code.ResultCode.{ResultCode}
use Rattle.cc_view.specs.declared.code.ResultCode.TheVariants.{ApplicationUnsupported, AvpOccursTooManyTimes, AvpUnsupported, CommandUnsupported, UnableToComply}
use Rattle.cc_view.specs.declared.refusal.Refusal.{Refusal}
use Rattle.cc_view.specs.declared.request.CcRequest.{CcRequest}
use Rattle.cc_view.specs.Answer.Carried.{carries_too_much}
use Rattle.cc_view.specs.RequestView.Checking.{command_values, count_codes, first_refusal, group_refusal, group_values, groups_refusal, inner_group_refusal, inner_refusal, is_units, members_refusal, fault_refusal, service_codes, service_members_refusal, service_refusal, subscription_codes, subscription_refusal, tested_in, units_refusal, value_refusal, value_refusal_among, values_refusal}
use Rattle.dia_base.specs.Codes.{multiple_services, subscription_id}
use Rattle.cc_view.specs.RequestView.Counting.{counted}
use Rattle.cc_view.specs.RequestView.Content.{are_within_limits, content_of, request_in, services_in}
use Rattle.cc_view.specs.Refusal.FailedAvp.{copy_or_least_form, fixed_len, is_copied, kind_at, least_form, least_len}
use Rattle.cc_view.specs.Refusal.{grammar_refusal, avps_by, avps_of, refusal_with, refusal_at, refusal_by_fault, refusal_for, refusal_of_octets, refusal_for_missing, unless_refused}
use Rattle.cc_view.specs.RequestView.{request_refusal, view_under, view_of_list}

abbrev IsShortIn : Refusal → Type 0
IsShortIn refusal = IfSome refusal.failed (λ avp. length_of avp ≤ 8192)

abbrev Short : Option Refusal → Type 0
Short refusal = IfSome refusal IsShortIn

-- ---- one AVP

fixed_least : (kind : Kind) → fixed_len kind ≤ 8
fixed_least Unsigned32 = lit≤ tt
fixed_least Unsigned64 = lit≤ tt
fixed_least Integer32 = lit≤ tt
fixed_least Integer64 = lit≤ tt
fixed_least Time = lit≤ tt
fixed_least Enumerated = lit≤ tt
fixed_least Utf8String = lit≤ tt
fixed_least DiameterIdentity = lit≤ tt
fixed_least OctetString = lit≤ tt
fixed_least Address = lit≤ tt
fixed_least Grouped = lit≤ tt

least_least : (kind : Option Kind) → least_len kind ≤ 8
least_least (Some kind) = fixed_least kind
least_least None = lit≤ tt

header_most : (vendor : Bool) → cond vendor 12 8 ≤ 12
header_most true = lit≤ tt
header_most false = lit≤ tt

short-least : (code flags vendor : ℕ) → length_of (least_form code flags vendor) ≤ 8192
short-least code flags vendor =
    omega (arith, header_most (has_vendor flags), least_least (kind_at code vendor), length-replicate {A = ℕ} (least_len (kind_at code vendor)) 0)

short-copied : (avp : RawAvp) → length_of (copy_or_least_form avp) ≤ 8192
short-copied avp = by_length (is_copied avp) refl
  where
    by_length : (short : Bool) → is_copied avp ≡ short → length_of (cond short avp (least_form avp.code avp.flags avp.vendor)) ≤ 8192
    by_length true is = leb-true (length_of avp) 8192 is
    by_length false is = short-least avp.code avp.flags avp.vendor

-- ---- one refusal

short-octets : (octets : List ℕ) (fault : AvpFault) → IsShortIn (refusal_of_octets octets fault)
short-octets octets (ShortHeader at) = tt
short-octets octets (LengthTooSmall at code) = short-least code _ _
short-octets octets (Overrun at code) = short-least code _ _
short-octets octets TooLong = tt
short-octets octets TooDeep = tt
short-octets octets OutOfMemory = tt

short-at : (code : ResultCode) (avps : List RawAvp) (at : ℕ) → Short (refusal_at code avps at)
short-at code avps at = by_place (slice_get avps at)
  where
    by_place : (found : Option RawAvp) → Short (option_map (refusal_for code) found)
    by_place (Some avp) = short-copied avp
    by_place None = tt

short-fault : (avp : RawAvp) (fault : DictFault) → Short (fault_refusal avp fault)
short-fault avp (dict.BadLength code) = short-least avp.code avp.flags avp.vendor
short-fault avp (dict.BadUtf8 code) = short-copied avp
short-fault avp (dict.BadEnumerated code) = short-copied avp
short-fault avp (dict.NoRow code) = tt
short-fault avp dict.OutOfMemory = tt

-- ---- one test and then another

short-then : {X : Type 0} (test : X → Option Refusal) → ((x : X) → Short (test x)) → (found : Option X) → Short (option_and_then test found)
short-then test each (Some x) = each x
short-then test each None = tt

short-or : (a b : Option Refusal) → Short a → Short b → Short (option_or a b)
short-or (Some refusal) b p q = p
short-or None b p q = q

short-if : (b : Bool) (x y : Option Refusal) → Short x → Short y → Short (cond b x y)
short-if true x y p q = p
short-if false x y p q = q

short-first : (test : RawAvp → Option Refusal) → ((avp : RawAvp) → Short (test avp)) → (avps : List RawAvp) → Short (first_refusal test avps)
short-first test each [] = tt
short-first test each (avp ∷ avps) = short-or (test avp) (first_refusal test avps) (each avp) (short-first test each avps)

short-missing : (code : Option ℕ) → Short (option_map refusal_for_missing code)
short-missing (Some code) = short-least code 64 0
short-missing None = tt

-- ---- values and groups

short-value : (avp : RawAvp) → Short (value_refusal avp)
unfolding value_refusal
short-value avp = short-then (fault_refusal avp) (short-fault avp) (result_err (reading_of avp))

short-values : (codes : List ℕ) (avps : List RawAvp) → Short (values_refusal codes avps)
short-values codes avps = short-first (value_refusal_among codes) (λ avp. short-if (is_among codes avp) (value_refusal avp) None (short-value avp) tt) avps

short-members : (profile : RequestProfile) (single required : List ℕ) (avps : List RawAvp) → Short (members_refusal profile single required avps)
short-members profile single required avps =
    let unknown = option_and_then (refusal_at AvpUnsupported avps) (unknown_of profile avps) in
    let second = option_and_then (refusal_at AvpOccursTooManyTimes avps) (second_of single avps) in
    let missing = option_map refusal_for_missing (missing_of required avps) in
    let values = values_refusal group_values avps in
    short-or unknown (option_or second (option_or missing values)) (short-then (refusal_at AvpUnsupported avps) (short-at AvpUnsupported avps) (unknown_of profile avps))
    (short-or second (option_or missing values) (short-then (refusal_at AvpOccursTooManyTimes avps) (short-at AvpOccursTooManyTimes avps) (second_of single avps))
    (short-or missing values (short-missing (missing_of required avps)) (short-values group_values avps)))

short-tested : (test : List RawAvp → Option Refusal) → ((avps : List RawAvp) → Short (test avps)) → (octets : List ℕ) (s : Result (List RawAvp) AvpFault) → Short (tested_in test (avps_by octets s))
short-tested test each octets (Ok avps) = each avps
short-tested test each octets (Err fault) = short-octets octets fault

short-subscription : (profile : RequestProfile) (avp : RawAvp) → Short (subscription_refusal profile avp)
unfolding subscription_refusal
short-subscription profile avp = short-tested (members_refusal profile subscription_codes subscription_codes) (short-members profile subscription_codes subscription_codes) avp.value (split_of avp.value)

short-units : (profile : RequestProfile) (avp : RawAvp) → Short (units_refusal profile avp)
unfolding units_refusal
short-units profile avp = short-tested (members_refusal profile count_codes []) (short-members profile count_codes []) avp.value (split_of avp.value)

short-inner : (profile : RequestProfile) (avps : List RawAvp) → Short (inner_refusal profile avps)
short-inner profile avps = short-first (inner_group_refusal profile) (λ avp. short-if (is_units avp) (units_refusal profile avp) None (short-units profile avp) tt) avps

short-service : (profile : RequestProfile) (avp : RawAvp) → Short (service_refusal profile avp)
unfolding service_refusal
short-service profile avp =
    short-tested (service_members_refusal profile)
    (λ avps. short-or (members_refusal profile service_codes [] avps) (inner_refusal profile avps) (short-members profile service_codes [] avps) (short-inner profile avps))
    avp.value (split_of avp.value)

short-group : (profile : RequestProfile) (avp : RawAvp) → Short (group_refusal profile avp)
short-group profile avp =
    let service = cond (is_of multiple_services avp) (service_refusal profile avp) None in
    let units = cond (is_units avp) (units_refusal profile avp) service in
    short-if (is_of subscription_id avp) (subscription_refusal profile avp) units (short-subscription profile avp)
    (short-if (is_units avp) (units_refusal profile avp) service (short-units profile avp)
    (short-if (is_of multiple_services avp) (service_refusal profile avp) None (short-service profile avp) tt))

-- ---- a request

short-by : (avps : List RawAvp) (fault : GrammarFault) → Short (refusal_by_fault avps fault)
short-by avps (Missing code) = short-least code 64 0
short-by avps FirstNotSessionId = tt
short-by avps (UnknownM at) = short-at AvpUnsupported avps at
short-by avps (Twice at) = short-at AvpOccursTooManyTimes avps at

short-request : (profile : RequestProfile) (avps : List RawAvp) → Short (request_refusal profile avps)
short-request profile avps =
    let values = values_refusal command_values avps in
    let groups = groups_refusal profile avps in
    short-or (grammar_refusal profile (counted profile avps)) (option_or values groups) (short-then (refusal_by_fault (counted profile avps)) (short-by (counted profile avps)) (grammar_fault profile (counted profile avps)))
    (short-or values groups (short-values command_values avps) (short-first (group_refusal profile) (short-group profile) avps))

-- ---- the view

abbrev ShortErr : Result CcRequest Refusal → Type 0
ShortErr view = IfErr view IsShortIn

short-content : (within : Bool) (request : CcRequest) → ShortErr (cond within (Ok request) (Err (refusal_with UnableToComply)))
short-content true request = tt
short-content false request = tt

short-avps : (much : Bool) (refusal : Option Refusal) (content : Result CcRequest Refusal) → Short refusal → ShortErr content → ShortErr (cond much (Err (refusal_with UnableToComply)) (unless_refused refusal content))
short-avps true refusal content p q = tt
short-avps false (Some refusal) content p q = p
short-avps false None content p q = q

short-list : (profile : RequestProfile) (octets : List ℕ) (s : Result (List RawAvp) AvpFault) → ShortErr (view_of_list profile (avps_by octets s))
short-list profile octets (Err fault) = short-octets octets fault
short-list profile octets (Ok avps) =
    short-avps (carries_too_much avps) (request_refusal profile avps) (content_of avps) (short-request profile avps) (short-content (are_within_limits (services_in avps)) (request_in avps))

short-header : (application command : Bool) (view : Result CcRequest Refusal) → ShortErr view → ShortErr (cond (not application) (Err (refusal_with ApplicationUnsupported)) (cond (not command) (Err (refusal_with CommandUnsupported)) view))
short-header true true view p = p
short-header true false view p = tt
short-header false command view p = tt

short-view : (profile : RequestProfile) (message : Message) → ShortErr (view_under profile message)
unfolding view_under
short-view profile message =
    short-header (eqb message.header.application 4) (eqb message.header.command 272) (view_of_list profile (avps_of message.body)) (short-list profile message.body (split_of message.body))

pub failed-short : (profile : RequestProfile) (message : Message) (refusal : Refusal) → view_under profile message ≡ Err refusal → IfSome refusal.failed (λ avp. length_of avp ≤ 8192)
failed-short profile message refusal e = subst ShortErr e (short-view profile message)
