-- The reply that was given, written part by part.
use Rattle.std.proofs.Common.{◌≡◌, ℕ, ◌^◌, List, Ok, refl}
use Rattle.std.specs.Prelude.{true}
use Rattle.cc_view.specs.declared.code.ResultCode.{ResultCode}
use Rattle.cc_view.specs.declared.code.ResultCode.TheVariants.{Success, CommandUnsupported, UnableToDeliver, RealmNotServed, TooBusy, LoopDetected, ApplicationUnsupported, CreditLimitReached, AvpUnsupported, UnknownSessionId, InvalidAvpValue, MissingAvp, AvpOccursTooManyTimes, NoCommonApplication, UnableToComply, InvalidAvpLength, UserUnknown, RatingFailed}
use Rattle.cc_view.specs.declared.reply.CcReply.{CcReply}
use Rattle.cc_view.specs.declared.reply.Cost.{Cost}
use Rattle.cc_view.specs.declared.reply.ServiceReply.{ServiceReply}
use Rattle.cc_view.specs.declared.request.ServiceName.{ServiceName}
use Rattle.cc_view.specs.ResultNumber.{number_of}
use Rattle.dia_base.specs.declared.number.Code.{Code}
use Rattle.book_rows.specs.declared.fault.Fault.TheVariants.{BadFlag}
use Rattle.book_rows.specs.Form.{Adds, both, listed, number, optional}
use Rattle.book_rows.specs.Parts.{code, code_of, cost, cost_of, cost_parts, count, flag, is_small, name, name_of, name_parts, reply, reply_of, reply_parts, service_reply, service_reply_of, service_reply_parts, signed, unit, unit_number, unit_of}
use Rattle.book_rows.proofs.Written.{both_added, checked_added}

code_back : (value : ResultCode) → code_of (number_of value) ≡ Ok value
code_back Success = refl
code_back CommandUnsupported = refl
code_back UnableToDeliver = refl
code_back RealmNotServed = refl
code_back TooBusy = refl
code_back LoopDetected = refl
code_back ApplicationUnsupported = refl
code_back CreditLimitReached = refl
code_back AvpUnsupported = refl
code_back UnknownSessionId = refl
code_back InvalidAvpValue = refl
code_back MissingAvp = refl
code_back AvpOccursTooManyTimes = refl
code_back NoCommonApplication = refl
code_back UnableToComply = refl
code_back InvalidAvpLength = refl
code_back UserUnknown = refl
code_back RatingFailed = refl

pub code_added : (value : ResultCode) (old new : List ℕ) → Adds (number 4) (number_of value) old new → Adds code value old new
unfolding code
code_added value old new added = checked_added (number 4) code_of number_of value old new (code_back value) added

pub unit_added : (value : Code) (old new : List ℕ) → Adds (number 4) value.0 old new → Adds unit value old new
unfolding unit
unit_added value old new added = checked_added (number 4) unit_of unit_number value old new refl added

pub name_added : (value : ServiceName) {old mid new : List ℕ} → Adds (optional BadFlag (number 4)) value.group old mid → Adds (optional BadFlag (number 4)) value.ident mid new → Adds name value old new
unfolding name
name_added value {old = old} {new = new} p q = checked_added (both (optional BadFlag (number 4)) (optional BadFlag (number 4))) name_of name_parts value old new refl (both_added p q)

pub service_reply_added : (value : ServiceReply) {old a b c d e f new : List ℕ} → Adds name value.name old a → Adds flag value.bare a b → Adds code value.code b c → Adds (optional BadFlag unit) value.kind c d → Adds count value.granted d e → Adds (optional BadFlag (number 4)) value.validity e f → Adds flag value.last f new → Adds service_reply value old new
unfolding service_reply
service_reply_added value {old = old} {new = new} p q r s t u v =
    checked_added (both name (both flag (both code (both (optional BadFlag unit) (both count (both (optional BadFlag (number 4)) flag)))))) service_reply_of service_reply_parts value old new refl
    (both_added p (both_added q (both_added r (both_added s (both_added t (both_added u v))))))

pub cost_added : (value : Cost) {old a b new : List ℕ} → is_small (2 ^ 63) value.digits ≡ true → is_small (2 ^ 31) value.exponent ≡ true → Adds signed value.digits old a → Adds signed value.exponent a b → Adds (number 4) value.currency b new → Adds cost value old new
unfolding cost
cost_added value {old = old} {new = new} digits exponent p q r =
    checked_added (both signed (both signed (number 4))) cost_of cost_parts value old new (rw (digits, exponent) refl) (both_added p (both_added q r))

pub reply_added : (value : CcReply) {old a b c new : List ℕ} → Adds code value.code old a → Adds (listed service_reply) value.services a b → Adds (optional BadFlag cost) value.cost b c → Adds (optional BadFlag (number 4)) value.check c new → Adds reply value old new
unfolding reply
reply_added value {old = old} {new = new} p q r s =
    checked_added (both code (both (listed service_reply) (both (optional BadFlag cost) (optional BadFlag (number 4))))) reply_of reply_parts value old new refl
    (both_added p (both_added q (both_added r s)))
