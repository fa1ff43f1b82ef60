-- What is answered to a Credit-Control-Request (RFC 8506, section 3.2), and to a request that is refused.
pub mod Carried
pub mod Fitting
pub mod Short
pub mod Typed
pub mod Writing
use Rattle.std.specs.Prelude.{ℕ, List, [], ◌∷◌, ◌++◌, map, filter, find, length, Bool, true, false, not, min, nat_le, ◌==◌, if◌then◌else◌, Option, Some, None, option_map, option_to_list}
use Rattle.dia_base.specs.declared.number.Code.{Code}
use Rattle.dia_avp.specs.declared.avp.RawAvp.{RawAvp}
use Rattle.dia_avp.specs.AvpReading.{split_of}
use Rattle.dia_message.specs.declared.header.Header.{Header}
use Rattle.dia_message.specs.declared.message.Message.{Message}
use Rattle.cc_view.specs.declared.code.ResultCode.{ResultCode}
use Rattle.cc_view.specs.declared.code.ResultCode.TheVariants.{Success}
use Rattle.cc_view.specs.declared.reply.CcReply.{CcReply}
use Rattle.cc_view.specs.declared.reply.Cost.{Cost}
use Rattle.cc_view.specs.declared.reply.ServiceReply.{ServiceReply}
use Rattle.cc_view.specs.declared.refusal.Refusal.{Refusal}
use Rattle.cc_view.specs.declared.request.CcRequest.{CcRequest}
use Rattle.cc_view.specs.declared.request.RequestKind.{RequestKind}
use Rattle.cc_view.specs.declared.request.RequestKind.TheVariants.{Initial}
use Rattle.cc_view.specs.Answer.Carried.{carriable_avps, session_in, proxies_in}
use Rattle.dia_base.specs.Codes.{auth_application_id, session_id, origin_host, origin_realm, cc_request_number, cc_request_type, service_identifier, credit_control_application, result_code, cc_session_failover, cc_time, check_balance_result, cost_information, currency_code, exponent, final_unit_action, final_unit_indication, granted_service_unit, multiple_services, rating_group, unit_value, value_digits, validity_time}
use Rattle.cc_view.specs.Refusal.FailedAvp.{failed_part}
use Rattle.cc_view.specs.Request.Number.{kind_number}
use Rattle.cc_view.specs.ResultNumber.{number_of}
use Rattle.cc_view.specs.Answer.Writing.{octets_avp, u32_avp, u64_avp, i32_avp, i64_avp, group_avp, spelling_of}

-- ---- parts that several answers have

-- An answer keeps P, the command, the application and both identifiers of its request. R and T are
-- clear, and E is as given.
abbrev pub answer_header : Bool → Header → Header
answer_header error header = record header { request = false; error = error; resent = false }

abbrev pub origin_part : List ℕ → List ℕ → List RawAvp
origin_part host realm = octets_avp origin_host host ∷ octets_avp origin_realm realm ∷ []

abbrev pub optional_u32 : ℕ → Option ℕ → List RawAvp
optional_u32 code n = option_to_list (option_map (u32_avp code) n)

-- ---- Credit-Control-Answer

-- A Session-Id that takes more than 49,152 octets with its header is not written. No view has one.
abbrev pub session_part : List ℕ → List RawAvp
session_part session = if nat_le (length session) 49144 then octets_avp session_id session ∷ [] else []

-- CC-Session-Failover, supported, for a session that opens (RFC 8506, section 8.4)
abbrev pub failover_part : RequestKind → ResultCode → List RawAvp
failover_part Initial Success = u32_avp cc_session_failover 1 ∷ []
failover_part _ _ = []

abbrev pub command_part : List ℕ → List ℕ → CcRequest → ResultCode → List RawAvp
command_part front realm request code =
    session_part request.session
    ++ u32_avp result_code (number_of code) ∷ []
    ++ origin_part front realm
    ++ u32_avp auth_application_id credit_control_application ∷ []
    ++ u32_avp cc_request_type (kind_number request.kind) ∷ []
    ++ u32_avp cc_request_number request.number ∷ []
    ++ failover_part request.kind code

-- the AVP of the tariff's unit: CC-Time has 4 octets, which hold no more than 2 ^ 32 - 1 seconds
abbrev pub unit_avp : Code → ℕ → RawAvp
unit_avp kind n = if kind.0 == cc_time then u32_avp cc_time (min n 4294967295) else u64_avp kind.0 n

-- Granted-Service-Unit (RFC 8506, section 8.17)
abbrev pub granted_part : Option Code → Option ℕ → List RawAvp
granted_part (Some kind) (Some n) = group_avp granted_service_unit (unit_avp kind n ∷ []) ∷ []
granted_part _ _ = []

-- Final-Unit-Indication, with the action Terminate (RFC 8506, section 8.34)
abbrev pub final_part : Bool → List RawAvp
final_part last = if last then group_avp final_unit_indication (u32_avp final_unit_action 0 ∷ []) ∷ [] else []

-- Multiple-Services-Credit-Control (RFC 8506, section 8.16)
abbrev pub service_avp : ServiceReply → RawAvp
service_avp service = group_avp multiple_services (
    granted_part service.kind service.granted
    ++ optional_u32 service_identifier service.name.ident
    ++ optional_u32 rating_group service.name.group
    ++ optional_u32 validity_time service.validity
    ++ u32_avp result_code (number_of service.code) ∷ []
    ++ final_part service.last)

-- the services that stand for no units of the command itself, each as a group
abbrev pub services_part : List ServiceReply → List RawAvp
services_part services = map service_avp (filter (λ service. not service.bare) services)

-- the service that stands for the units of the command itself
abbrev pub bare_in : List ServiceReply → Option ServiceReply
bare_in services = find (λ service. service.bare) services

abbrev pub bare_granted_part : Option ServiceReply → List RawAvp
bare_granted_part (Some service) = granted_part service.kind service.granted
bare_granted_part None = []

abbrev pub bare_final_part : Option ServiceReply → List RawAvp
bare_final_part (Some service) = final_part service.last
bare_final_part None = []

abbrev pub bare_validity_part : Option ServiceReply → List RawAvp
bare_validity_part (Some service) = optional_u32 validity_time service.validity
bare_validity_part None = []

-- Cost-Information (RFC 8506, section 8.7)
abbrev pub cost_avp : Cost → RawAvp
cost_avp cost = group_avp cost_information (
    group_avp unit_value (i64_avp value_digits cost.digits ∷ i32_avp exponent cost.exponent ∷ [])
    ∷ u32_avp currency_code cost.currency ∷ [])

abbrev pub cost_part : Option Cost → List RawAvp
cost_part cost = option_to_list (option_map cost_avp cost)

abbrev pub units_part : CcReply → List RawAvp
units_part reply =
    bare_granted_part (bare_in reply.services)
    ++ services_part reply.services
    ++ cost_part reply.cost
    ++ bare_final_part (bare_in reply.services)
    ++ optional_u32 check_balance_result reply.check
    ++ bare_validity_part (bare_in reply.services)

abbrev pub answer_avps : List ℕ → List ℕ → Message → CcRequest → CcReply → List RawAvp
answer_avps front realm message request reply =
    command_part front realm request reply.code ++ units_part reply ++ proxies_in (carriable_avps (split_of message.body))

-- the answer of a front of this realm to a message that asks this request, with this reply
unfoldable pub answer_to : List ℕ → List ℕ → Message → CcRequest → CcReply → Message
answer_to front realm message request reply = record {
  header = answer_header false message.header;
  body = spelling_of (answer_avps front realm message request reply);
}

-- ---- refusals

abbrev pub refusal_avps : List ℕ → List ℕ → Message → Refusal → List RawAvp
refusal_avps node realm message refusal =
    session_in (carriable_avps (split_of message.body))
    ++ origin_part node realm
    ++ u32_avp result_code (number_of refusal.code) ∷ []
    ++ failed_part refusal.failed
    ++ proxies_in (carriable_avps (split_of message.body))

-- The refusal of a message by a node of this realm. E is set, since it does not keep to the grammar
-- of the command's answer (RFC 6733, section 7.2).
unfoldable pub refusal_of : List ℕ → List ℕ → Message → Refusal → Message
refusal_of node realm message refusal = record {
  header = answer_header true message.header;
  body = spelling_of (refusal_avps node realm message refusal);
}
