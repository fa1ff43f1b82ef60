-- How the parts of a row are spelled.
use Rattle.std.specs.Prelude.{ℕ, zero, suc, ◌^◌, nat_lt, ℤ, pos, negsuc, Bool, true, false, List, [], ◌∷◌, slice_index_or, Option, None, Result, Ok, Err, if◌then◌else◌}
use Rattle.dia_base.specs.declared.number.Code.{Code}
use Rattle.cc_view.specs.declared.code.ResultCode.{ResultCode}
use Rattle.cc_view.specs.declared.code.ResultCode.TheVariants.{Success, CommandUnsupported, UnableToDeliver, RealmNotServed, TooBusy, LoopDetected, ApplicationUnsupported, CreditLimitReached, AvpUnsupported, UnknownSessionId, InvalidAvpValue, MissingAvp, AvpOccursTooManyTimes, NoCommonApplication, UnableToComply, InvalidAvpLength, UserUnknown, RatingFailed}
use Rattle.cc_view.specs.declared.reply.CcReply.{CcReply}
use Rattle.cc_view.specs.declared.reply.Cost.{Cost}
use Rattle.cc_view.specs.declared.reply.ServiceReply.{ServiceReply}
use Rattle.cc_view.specs.declared.request.CcRequest.{CcRequest}
use Rattle.cc_view.specs.declared.request.RequestKind.{RequestKind}
use Rattle.cc_view.specs.declared.request.RequestKind.TheVariants.{Initial, Update, Termination, Event}
use Rattle.cc_view.specs.declared.request.RequestedAction.{RequestedAction}
use Rattle.cc_view.specs.declared.request.RequestedAction.TheVariants.{DirectDebiting, RefundAccount, CheckBalance, PriceEnquiry}
use Rattle.cc_view.specs.declared.request.Service.{Service}
use Rattle.cc_view.specs.declared.request.ServiceName.{ServiceName}
use Rattle.cc_view.specs.declared.request.Subscription.{Subscription}
use Rattle.cc_view.specs.Request.Number.{action_number, kind_number}
use Rattle.cc_view.specs.RequestView.Content.{are_within_limits}
use Rattle.cc_view.specs.ResultNumber.{number_of}
use Rattle.book_rows.specs.declared.fault.Fault.{Fault}
use Rattle.book_rows.specs.declared.fault.Fault.TheVariants.{BadFlag, OutOfRange, UnknownRequestType, UnknownAction, UnknownResultCode, PastLimits}
use Rattle.book_rows.specs.Form.{Form, both, checked, counted, listed, number, numbered, optional}

-- ---- numbers

abbrev pub bool_of : ℕ → Result Bool Fault
bool_of zero = Ok false
bool_of (suc zero) = Ok true
bool_of (suc (suc other)) = Err BadFlag

abbrev pub bool_number : Bool → ℕ
bool_number false = 0
bool_number true = 1

-- 0 for false, 1 for true
unfoldable pub flag : Form Bool
flag = checked (number 1) bool_of bool_number

abbrev pub signed_by : Bool → ℕ → ℤ
signed_by false n = pos n
signed_by true n = negsuc n

abbrev pub signed_of : Bool × ℕ → Result ℤ Fault
signed_of x = if nat_lt x.1 (2 ^ 127) then Ok (signed_by x.0 x.1) else Err OutOfRange

abbrev pub signed_parts : ℤ → Bool × ℕ
signed_parts (pos n) = (false, n)
signed_parts (negsuc n) = (true, n)

-- whether it is below 0, and the number, or what is left of its size below 0 without 1
unfoldable pub signed : Form ℤ
signed = checked (both flag (number 16)) signed_of signed_parts

-- ---- what was asked

abbrev pub kinds : List RequestKind
kinds = Initial ∷ Update ∷ Termination ∷ Event ∷ []

abbrev pub kind_of : ℕ → Result RequestKind Fault
kind_of = numbered UnknownRequestType kind_number kinds

-- CC-Request-Type by its number
unfoldable pub kind : Form RequestKind
kind = checked (number 1) kind_of kind_number

abbrev pub actions : List RequestedAction
actions = DirectDebiting ∷ RefundAccount ∷ CheckBalance ∷ PriceEnquiry ∷ []

abbrev pub action_of : ℕ → Result RequestedAction Fault
action_of = numbered UnknownAction action_number actions

-- Requested-Action by its number
unfoldable pub action : Form RequestedAction
action = checked (number 1) action_of action_number

abbrev pub subscription_of : ℕ × List ℕ → Result Subscription Fault
subscription_of x = Ok (record { kind = x.0; text = x.1 })

abbrev pub subscription_parts : Subscription → ℕ × List ℕ
subscription_parts s = (s.kind, s.text)

unfoldable pub subscription : Form Subscription
subscription = checked (both (number 4) counted) subscription_of subscription_parts

abbrev pub count : Form (Option ℕ)
count = optional BadFlag (number 8)

abbrev pub three_of : {A : Type 0} → A × (A × A) → Result (List A) Fault
three_of x = Ok (x.0 ∷ x.1.0 ∷ x.1.1 ∷ [])

abbrev pub three_parts : {A : Type 0} → A → List A → A × (A × A)
three_parts none xs = (slice_index_or xs 0 none, (slice_index_or xs 1 none, slice_index_or xs 2 none))

-- the counts of Requested-Service-Unit: time, octets, service-specific units
unfoldable pub counts : Form (List (Option ℕ))
counts = checked (both count (both count count)) three_of (three_parts None)

-- the sums of used units, in the same order
unfoldable pub sums : Form (List ℕ)
sums = checked (both (number 16) (both (number 16) (number 16))) three_of (three_parts 0)

abbrev pub service_of : Option ℕ × (Option ℕ × (Bool × (Option (List (Option ℕ)) × List ℕ))) → Result Service Fault
service_of x = Ok (record { group = x.0; ident = x.1.0; bare = x.1.1.0; asked = x.1.1.1.0; used = x.1.1.1.1 })

abbrev pub service_parts : Service → Option ℕ × (Option ℕ × (Bool × (Option (List (Option ℕ)) × List ℕ)))
service_parts s = (s.group, (s.ident, (s.bare, (s.asked, s.used))))

unfoldable pub service : Form Service
service = checked (both (optional BadFlag (number 4)) (both (optional BadFlag (number 4)) (both flag (both (optional BadFlag counts) sums)))) service_of service_parts

abbrev pub services_of : List Service → Result (List Service) Fault
services_of xs = if are_within_limits xs then Ok xs else Err PastLimits

abbrev pub the_services : List Service → List Service
the_services xs = xs

-- services within the limits of a request
unfoldable pub services : Form (List Service)
services = checked (listed service) services_of the_services

abbrev pub request_of : List ℕ × (ℕ × (RequestKind × (Option RequestedAction × (List Subscription × List Service)))) → Result CcRequest Fault
request_of x = Ok (record {
  session = x.0;
  number = x.1.0;
  kind = x.1.1.0;
  action = x.1.1.1.0;
  subscriptions = x.1.1.1.1.0;
  services = x.1.1.1.1.1;
})

abbrev pub request_parts : CcRequest → List ℕ × (ℕ × (RequestKind × (Option RequestedAction × (List Subscription × List Service))))
request_parts r = (r.session, (r.number, (r.kind, (r.action, (r.subscriptions, r.services)))))

unfoldable pub request : Form CcRequest
request = checked (both counted (both (number 4) (both kind (both (optional BadFlag action) (both (listed subscription) services))))) request_of request_parts

-- ---- the reply

abbrev pub codes : List ResultCode
codes =
    Success ∷ CommandUnsupported ∷ UnableToDeliver ∷ RealmNotServed ∷ TooBusy ∷ LoopDetected ∷ ApplicationUnsupported ∷ CreditLimitReached ∷ AvpUnsupported ∷ UnknownSessionId ∷ InvalidAvpValue ∷ MissingAvp
    ∷ AvpOccursTooManyTimes ∷ NoCommonApplication ∷ UnableToComply ∷ InvalidAvpLength ∷ UserUnknown ∷ RatingFailed ∷ []

abbrev pub code_of : ℕ → Result ResultCode Fault
code_of = numbered UnknownResultCode number_of codes

-- Result-Code by its number
unfoldable pub code : Form ResultCode
code = checked (number 4) code_of number_of

abbrev pub unit_of : ℕ → Result Code Fault
unit_of n = Ok (record { 0 = n })

abbrev pub unit_number : Code → ℕ
unit_number code = code.0

-- the AVP code of a unit
unfoldable pub unit : Form Code
unit = checked (number 4) unit_of unit_number

-- a signed number of so many bits, one for its sign
abbrev pub is_small : ℕ → ℤ → Bool
is_small limit (pos n) = nat_lt n limit
is_small limit (negsuc n) = nat_lt n limit

abbrev pub cost_by : Bool → Bool → ℤ × (ℤ × ℕ) → Result Cost Fault
cost_by true true x = Ok (record { digits = x.0; exponent = x.1.0; currency = x.1.1 })
cost_by true false x = Err OutOfRange
cost_by false _ x = Err OutOfRange

abbrev pub cost_of : ℤ × (ℤ × ℕ) → Result Cost Fault
cost_of x = cost_by (is_small (2 ^ 63) x.0) (is_small (2 ^ 31) x.1.0) x

abbrev pub cost_parts : Cost → ℤ × (ℤ × ℕ)
cost_parts c = (c.digits, (c.exponent, c.currency))

unfoldable pub cost : Form Cost
cost = checked (both signed (both signed (number 4))) cost_of cost_parts

abbrev pub name_of : Option ℕ × Option ℕ → Result ServiceName Fault
name_of x = Ok (record { group = x.0; ident = x.1 })

abbrev pub name_parts : ServiceName → Option ℕ × Option ℕ
name_parts name = (name.group, name.ident)

unfoldable pub name : Form ServiceName
name = checked (both (optional BadFlag (number 4)) (optional BadFlag (number 4))) name_of name_parts

abbrev pub service_reply_of : ServiceName × (Bool × (ResultCode × (Option Code × (Option ℕ × (Option ℕ × Bool))))) → Result ServiceReply Fault
service_reply_of x = Ok (record {
  name = x.0;
  bare = x.1.0;
  code = x.1.1.0;
  kind = x.1.1.1.0;
  granted = x.1.1.1.1.0;
  validity = x.1.1.1.1.1.0;
  last = x.1.1.1.1.1.1;
})

abbrev pub service_reply_parts : ServiceReply → ServiceName × (Bool × (ResultCode × (Option Code × (Option ℕ × (Option ℕ × Bool)))))
service_reply_parts r = (r.name, (r.bare, (r.code, (r.kind, (r.granted, (r.validity, r.last))))))

unfoldable pub service_reply : Form ServiceReply
service_reply = checked (both name (both flag (both code (both (optional BadFlag unit) (both count (both (optional BadFlag (number 4)) flag)))))) service_reply_of service_reply_parts

abbrev pub reply_of : ResultCode × (List ServiceReply × (Option Cost × Option ℕ)) → Result CcReply Fault
reply_of x = Ok (record { code = x.0; services = x.1.0; cost = x.1.1.0; check = x.1.1.1 })

abbrev pub reply_parts : CcReply → ResultCode × (List ServiceReply × (Option Cost × Option ℕ))
reply_parts r = (r.code, (r.services, (r.cost, r.check)))

unfoldable pub reply : Form CcReply
reply = checked (both code (both (listed service_reply) (both (optional BadFlag cost) (optional BadFlag (number 4))))) reply_of reply_parts
