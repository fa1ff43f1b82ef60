-- Which AVPs a Credit-Control-Request has, and which fault comes first where it has others (RFC 8506, section 3.1). An AVP that is named by its code is one of vendor 0. A place in a list of AVPs counts from 0.
use Rattle.std.specs.Prelude.{ℕ, ◌<◌, List, [], ◌∷◌, ◌++◌, length, find, position, Bool, false, not, ◌&&◌, ◌||◌, ◌==◌, nat_le, if◌then◌else◌, Option, Some, None, option_map, is_some}
use Rattle.std.specs.List.{list_any}
use Rattle.byteorder.specs.Endian.{big_number}
use Rattle.dia_avp.specs.declared.avp.RawAvp.{RawAvp}
use Rattle.dia_avp.specs.AvpList.{is_mandatory as has_flag_m}
use Rattle.dia_dict.specs.Dictionary.{row_of}
use Rattle.dia_grammar.specs.declared.fault.GrammarFault.{GrammarFault}
use Rattle.dia_grammar.specs.declared.fault.GrammarFault.TheVariants.{Missing, Twice, UnknownM, FirstNotSessionId}
use Rattle.dia_grammar.specs.Profile.{RequestProfile}
use Rattle.dia_base.specs.Codes.{auth_application_id, session_id, origin_host, destination_realm, origin_realm, cc_request_number, cc_request_type, requested_action, requested_service_unit, service_identifier, service_context_id}

-- ---- one AVP

-- an AVP of vendor 0 with this code
abbrev pub is_of : ℕ → RawAvp → Bool
is_of code avp = avp.vendor == 0 && avp.code == code

-- an AVP of one of these codes
abbrev pub is_among : List ℕ → RawAvp → Bool
is_among codes avp = list_any (λ code. is_of code avp) codes

-- it has the flag M: who does not know the AVP refuses the message (RFC 6733, section 4.1)
abbrev pub is_mandatory : RawAvp → Bool
is_mandatory avp = has_flag_m avp.flags

-- the dictionary has a row for this code and vendor
unfoldable pub has_row : ℕ → ℕ → Bool
has_row code vendor = is_some (row_of code vendor)

-- one of the codes 1 to 461 of vendor 0, from User-Name to Service-Context-Id
abbrev pub is_standard : ℕ → ℕ → Bool
is_standard code vendor = vendor == 0 && nat_le 1 code && nat_le code service_context_id

-- an AVP that is known under a profile: its codes are of vendor 0, and known beside the dictionary's. Nothing is read in such an AVP for that
abbrev pub is_known : RequestProfile → RawAvp → Bool
is_known profile avp =
    is_among profile.known avp
    || (has_row avp.code avp.vendor || is_standard avp.code avp.vendor || list_any (λ vendor. vendor == avp.vendor) profile.vendors)

abbrev pub is_unknown_mandatory : RequestProfile → RawAvp → Bool
is_unknown_mandatory profile avp = is_mandatory avp && not (is_known profile avp)

-- ---- a list of AVPs, of a message or of a group

-- an AVP of this code is there
abbrev pub has_avp : ℕ → List RawAvp → Bool
has_avp code avps = list_any (is_of code) avps

-- the place of the first AVP that has M and is not known (RFC 6733, section 7.1.5, DIAMETER_AVP_UNSUPPORTED)
abbrev pub unknown_of : RequestProfile → List RawAvp → Option ℕ
unknown_of profile avps = position (is_unknown_mandatory profile) avps

-- an AVP of one of these codes, with one of its code before it
abbrev pub is_second : List ℕ → List RawAvp → RawAvp → Bool
is_second codes before avp = is_among codes avp && has_avp avp.code before

abbrev pub second_behind : List ℕ → List RawAvp → List RawAvp → Option ℕ
second_behind codes before [] = None
second_behind codes before (avp ∷ avps) =
    if is_second codes before avp then Some (length before) else second_behind codes (before ++ avp ∷ []) avps

-- the place of the first AVP that is a second one of its code, among these codes (RFC 6733, section 7.1.5, DIAMETER_AVP_OCCURS_TOO_MANY_TIMES)
abbrev pub second_of : List ℕ → List RawAvp → Option ℕ
second_of codes avps = second_behind codes [] avps

-- the first of these codes that no AVP has (RFC 6733, section 7.1.5, DIAMETER_MISSING_AVP)
abbrev pub missing_of : List ℕ → List RawAvp → Option ℕ
missing_of codes avps = find (λ code. not (has_avp code avps)) codes

-- ---- a Credit-Control-Request

-- the first AVP is a Session-Id (RFC 6733, section 8.8)
abbrev pub begins_with_session : List RawAvp → Bool
begins_with_session [] = false
begins_with_session (avp ∷ avps) = is_of session_id avp

abbrev pub session_fault : List RawAvp → Option GrammarFault
session_fault avps =
    if not (has_avp session_id avps) then Some (Missing session_id)
    else if not (begins_with_session avps) then Some FirstNotSessionId else None

-- what each request has beside its Session-Id
abbrev pub required_codes : List ℕ
required_codes =
    origin_host ∷ origin_realm ∷ destination_realm ∷ auth_application_id ∷ service_context_id
    ∷ cc_request_type ∷ cc_request_number ∷ []

-- what a request has at most once
abbrev pub single_codes : List ℕ
single_codes = session_id ∷ required_codes ++ requested_action ∷ requested_service_unit ∷ service_identifier ∷ []

-- a CC-Request-Type of 4 octets that is EVENT_REQUEST, 4 (RFC 8506, section 8.3)
abbrev pub is_event_type : RawAvp → Bool
is_event_type avp = is_of cc_request_type avp && length avp.value == 4 && big_number 4 avp.value == 4

-- what this request has to have: an event says what it asks for, by Requested-Action (RFC 8506, section 8.3)
abbrev pub required_in : List RawAvp → List ℕ
required_in avps = if list_any is_event_type avps then required_codes ++ requested_action ∷ [] else required_codes

-- the first that there is
abbrev pub first_fault : List (Option GrammarFault) → Option GrammarFault
first_fault [] = None
first_fault (Some fault ∷ faults) = Some fault
first_fault (None ∷ faults) = first_fault faults

-- What is wrong with the AVPs of a request under a profile: the first case that applies. It takes the AVPs as they are counted: what a
-- profile tolerates has been left out or put in.
unfoldable pub grammar_fault : RequestProfile → List RawAvp → Option GrammarFault
grammar_fault profile avps = first_fault (
    session_fault avps
    ∷ option_map (λ at. UnknownM at) (unknown_of profile avps)
    ∷ option_map (λ at. Twice at) (second_of single_codes avps)
    ∷ option_map (λ code. Missing code) (missing_of (required_in avps) avps)
    ∷ [])

-- the place that a fault names is one of these AVPs
abbrev pub IsWithin : List RawAvp → GrammarFault → Type 0
IsWithin avps (UnknownM at) = at < length avps
IsWithin avps (Twice at) = at < length avps
IsWithin avps _ = Unit {0}
