-- What a request asks (RFC 8506, section 3.1): its content, where no rule refuses it.
use Rattle.std.specs.Prelude.{ℕ, ◌^◌, List, [], ◌∷◌, length, filter, find, map, Bool, true, false, not, ◌&&◌, ◌||◌, ◌==◌, nat_eq, nat_le, nat_lt, if◌then◌else◌, Option, None, option_map, Result, Ok, Err}
use Rattle.std.specs.List.{list_any, list_all}
use Rattle.std.specs.Option.{unwrap_or, option_eq}
use Rattle.dia_avp.specs.declared.avp.RawAvp.{RawAvp}
use Rattle.cc_view.specs.declared.code.ResultCode.TheVariants.{UnableToComply}
use Rattle.cc_view.specs.declared.refusal.Refusal.{Refusal}
use Rattle.cc_view.specs.declared.request.CcRequest.{CcRequest}
use Rattle.cc_view.specs.declared.request.Service.{Service}
use Rattle.cc_view.specs.declared.request.Subscription.{Subscription}
use Rattle.cc_view.specs.declared.request.RequestKind.{RequestKind}
use Rattle.cc_view.specs.declared.request.RequestKind.TheVariants.{Initial, Update, Termination, Event}
use Rattle.cc_view.specs.declared.request.RequestedAction.{RequestedAction}
use Rattle.cc_view.specs.declared.request.RequestedAction.TheVariants.{DirectDebiting, RefundAccount, CheckBalance, PriceEnquiry}
use Rattle.dia_grammar.specs.Grammar.{is_of}
use Rattle.dia_base.specs.Codes.{cc_request_number, cc_request_type, requested_action, requested_service_unit, service_identifier, session_id, multiple_services, rating_group, subscription_id, subscription_id_data, subscription_id_type, used_service_unit}
use Rattle.cc_view.specs.Refusal.{refusal_with}
use Rattle.cc_view.specs.RequestView.Counts.{asked_in, members_of, u32_in, used_in}

-- ---- parts

-- the octets of the first AVP of this code
abbrev pub octets_in : ℕ → List RawAvp → List ℕ
octets_in code avps = unwrap_or (option_map (λ avp. avp.value) (find (is_of code) avps)) []

-- the request type with this number (RFC 8506, section 8.3)
abbrev pub kind_by : ℕ → RequestKind
kind_by n = if n == 1 then Initial else if n == 2 then Update else if n == 3 then Termination else Event

-- the action with this number (RFC 8506, section 8.41)
abbrev pub action_by : ℕ → RequestedAction
action_by n = if n == 0 then DirectDebiting else if n == 1 then RefundAccount else if n == 2 then CheckBalance else PriceEnquiry

abbrev pub subscription_of : RawAvp → Subscription
subscription_of avp = record {
  kind = unwrap_or (u32_in subscription_id_type (members_of avp)) 0;
  text = octets_in subscription_id_data (members_of avp);
}

-- a service with the units among these AVPs
abbrev pub service_in : Bool → Option ℕ → List RawAvp → Service
service_in bare group avps = record {
  group = group;
  ident = u32_in service_identifier avps;
  bare = bare;
  asked = asked_in avps;
  used = used_in avps;
}

abbrev pub service_of : RawAvp → Service
service_of avp = service_in false (u32_in rating_group (members_of avp)) (members_of avp)

-- whether the command itself has units, or names a service
abbrev pub is_own : RawAvp → Bool
is_own avp = is_of requested_service_unit avp || is_of used_service_unit avp || is_of service_identifier avp

-- one service that stands for the units of the command, if it has any
abbrev pub own_services_in : List RawAvp → List Service
own_services_in avps = if list_any is_own avps then service_in true None avps ∷ [] else []

-- each Multiple-Services-Credit-Control in order; where there is none, the units of the command
abbrev pub services_by : List RawAvp → List Service → List Service
services_by avps [] = own_services_in avps
services_by avps (service ∷ services) = service ∷ services

abbrev pub services_in : List RawAvp → List Service
services_in avps = services_by avps (map service_of (filter (is_of multiple_services) avps))

-- ---- limits

abbrev pub same_name : Service → Service → Bool
same_name a b = option_eq nat_eq a.group b.group && option_eq nat_eq a.ident b.ident

abbrev pub have_names_of_their_own : List Service → Bool
have_names_of_their_own [] = true
have_names_of_their_own (service ∷ services) = not (list_any (same_name service) services) && have_names_of_their_own services

-- each sum of used units is below 2 ^ 78
abbrev pub has_small_sums : Service → Bool
has_small_sums service = list_all (λ sum. nat_lt sum (2 ^ 78)) service.used

abbrev pub are_within_limits : List Service → Bool
are_within_limits services =
    nat_le (length services) 32 && have_names_of_their_own services
    && list_all has_small_sums services

-- ---- the whole

abbrev pub request_in : List RawAvp → CcRequest
request_in avps = record {
  session = octets_in session_id avps;
  number = unwrap_or (u32_in cc_request_number avps) 0;
  kind = kind_by (unwrap_or (u32_in cc_request_type avps) 0);
  action = option_map action_by (u32_in requested_action avps);
  subscriptions = map subscription_of (filter (is_of subscription_id) avps);
  services = services_in avps;
}

abbrev pub content_of : List RawAvp → Result CcRequest Refusal
content_of avps = if are_within_limits (services_in avps) then Ok (request_in avps) else Err (refusal_with UnableToComply)
