-- Which values and groups of a request are looked at, and why they are refused (RFC 6733, section 7.1.5).
use Rattle.std.specs.Prelude.{ℕ, List, [], ◌∷◌, ◌||◌, Bool, if◌then◌else◌, Option, Some, None, option_map, Result, Ok, Err}
use Rattle.std.specs.Option.{option_or, option_and_then}
use Rattle.dia_avp.specs.declared.avp.RawAvp.{RawAvp}
use Rattle.dia_dict.specs.declared.fault.DictFault.{DictFault}
use Rattle.dia_dict.specs.declared.fault.DictFault.TheVariants.{BadLength, BadUtf8, BadEnumerated}
use Rattle.dia_dict.specs.Reading.{reading_fault}
use Rattle.dia_grammar.specs.Profile.{RequestProfile}
use Rattle.dia_grammar.specs.Grammar.{is_among, is_of, missing_of, second_of, unknown_of}
use Rattle.cc_view.specs.declared.code.ResultCode.TheVariants.{AvpUnsupported, AvpOccursTooManyTimes, InvalidAvpLength, InvalidAvpValue}
use Rattle.cc_view.specs.declared.refusal.Refusal.{Refusal}
use Rattle.dia_base.specs.Codes.{session_id, cc_request_number, cc_request_type, requested_action, requested_service_unit, service_identifier, cc_service_specific_units, cc_time, cc_total_octets, multiple_services, rating_group, subscription_id, subscription_id_data, subscription_id_type, used_service_unit}
use Rattle.cc_view.specs.Refusal.FailedAvp.{least_form}
use Rattle.cc_view.specs.Refusal.{avps_of, refusal_at, refusal_for, refusal_for_missing}

-- the first refusal that a test gives, in the order of the AVPs
abbrev pub first_refusal : (RawAvp → Option Refusal) → List RawAvp → Option Refusal
first_refusal test [] = None
first_refusal test (avp ∷ avps) = option_or (test avp) (first_refusal test avps)

-- ---- values

-- a refusal of a value whose length none of its kind has
abbrev pub length_refusal : RawAvp → Refusal
length_refusal avp = record { code = InvalidAvpLength; failed = Some (least_form avp.code avp.flags avp.vendor) }

abbrev pub fault_refusal : RawAvp → DictFault → Option Refusal
fault_refusal avp (BadLength code) = Some (length_refusal avp)
fault_refusal avp (BadUtf8 code) = Some (refusal_for InvalidAvpValue avp)
fault_refusal avp (BadEnumerated code) = Some (refusal_for InvalidAvpValue avp)
fault_refusal avp _ = None

-- why the value of an AVP is refused, by its kind: a wrong length, no text, a number out of the enumeration
unfoldable pub value_refusal : RawAvp → Option Refusal
value_refusal avp = option_and_then (fault_refusal avp) (reading_fault avp)

abbrev pub value_refusal_among : List ℕ → RawAvp → Option Refusal
value_refusal_among codes avp = if is_among codes avp then value_refusal avp else None

-- the first value of these codes that is refused
abbrev pub values_refusal : List ℕ → List RawAvp → Option Refusal
values_refusal codes avps = first_refusal (value_refusal_among codes) avps

-- whose values are looked at in the command
abbrev pub command_values : List ℕ
command_values = session_id ∷ cc_request_type ∷ cc_request_number ∷ requested_action ∷ service_identifier ∷ []

-- whose values are looked at in a group
abbrev pub group_values : List ℕ
group_values =
    subscription_id_data ∷ subscription_id_type ∷ rating_group ∷ service_identifier ∷ cc_time ∷ cc_total_octets
    ∷ cc_service_specific_units ∷ []

-- ---- groups

-- Why the AVPs in a group are refused, which may have one AVP of each code in `single` and has to have
-- one of each in `required`: an unknown one with M, then a second one, then a missing one, then a value.
abbrev pub members_refusal : RequestProfile → List ℕ → List ℕ → List RawAvp → Option Refusal
members_refusal profile single required avps =
    option_or (option_and_then (refusal_at AvpUnsupported avps) (unknown_of profile avps))
    (option_or (option_and_then (refusal_at AvpOccursTooManyTimes avps) (second_of single avps))
    (option_or (option_map refusal_for_missing (missing_of required avps)) (values_refusal group_values avps)))

-- a test of the AVPs in a group, whose value may be no list of AVPs
abbrev pub tested_in : (List RawAvp → Option Refusal) → Result (List RawAvp) Refusal → Option Refusal
tested_in test (Ok members) = test members
tested_in test (Err refusal) = Some refusal

-- Subscription-Id has one type and one data (RFC 8506, section 8.46)
abbrev pub subscription_codes : List ℕ
subscription_codes = subscription_id_type ∷ subscription_id_data ∷ []

unfoldable pub subscription_refusal : RequestProfile → RawAvp → Option Refusal
subscription_refusal profile avp = tested_in (members_refusal profile subscription_codes subscription_codes) (avps_of avp.value)

-- Requested-Service-Unit and Used-Service-Unit have at most one of each count (RFC 8506, sections 8.18 and 8.19)
abbrev pub is_units : RawAvp → Bool
is_units avp = is_of requested_service_unit avp || is_of used_service_unit avp

abbrev pub count_codes : List ℕ
count_codes = cc_time ∷ cc_total_octets ∷ cc_service_specific_units ∷ []

unfoldable pub units_refusal : RequestProfile → RawAvp → Option Refusal
units_refusal profile avp = tested_in (members_refusal profile count_codes []) (avps_of avp.value)

abbrev pub inner_group_refusal : RequestProfile → RawAvp → Option Refusal
inner_group_refusal profile avp = if is_units avp then units_refusal profile avp else None

-- the first group of units that is refused
abbrev pub inner_refusal : RequestProfile → List RawAvp → Option Refusal
inner_refusal profile avps = first_refusal (inner_group_refusal profile) avps

-- Multiple-Services-Credit-Control has at most one Requested-Service-Unit and one Rating-Group (RFC 8506, section 8.16)
abbrev pub service_codes : List ℕ
service_codes = requested_service_unit ∷ rating_group ∷ []

abbrev pub service_members_refusal : RequestProfile → List RawAvp → Option Refusal
service_members_refusal profile avps = option_or (members_refusal profile service_codes [] avps) (inner_refusal profile avps)

unfoldable pub service_refusal : RequestProfile → RawAvp → Option Refusal
service_refusal profile avp = tested_in (service_members_refusal profile) (avps_of avp.value)

abbrev pub group_refusal : RequestProfile → RawAvp → Option Refusal
group_refusal profile avp =
    if is_of subscription_id avp then subscription_refusal profile avp
    else if is_units avp then units_refusal profile avp
    else if is_of multiple_services avp then service_refusal profile avp else None

-- the first group of a request that is refused
abbrev pub groups_refusal : RequestProfile → List RawAvp → Option Refusal
groups_refusal profile avps = first_refusal (group_refusal profile) avps
