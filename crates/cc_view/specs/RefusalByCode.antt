-- The refusal of a message by its code alone: which AVP it names (RFC 6733, sections 7.1.5 and 7.5).
use Rattle.std.specs.Prelude.{Bool, false, ◌==◌, if◌then◌else◌, Option, None, Result, Ok, Err}
use Rattle.dia_avp.specs.declared.avp.RawAvp.{RawAvp}
use Rattle.dia_message.specs.declared.message.Message.{Message}
use Rattle.dia_grammar.specs.Profile.{RequestProfile}
use Rattle.cc_view.specs.declared.code.ResultCode.{ResultCode}
use Rattle.cc_view.specs.declared.code.ResultCode.TheVariants.{InvalidAvpLength}
use Rattle.cc_view.specs.declared.refusal.Refusal.{Refusal}
use Rattle.cc_view.specs.Refusal.{avps_of}
use Rattle.cc_view.specs.RequestView.{view_under}
use Rattle.cc_view.specs.ResultNumber.{number_of}

-- whether it is refused with this code
abbrev pub is_refused_with : {T : Type 0} → ResultCode → Result T Refusal → Bool
is_refused_with code (Ok value) = false
is_refused_with code (Err refusal) = number_of refusal.code == number_of code

-- the AVP at fault, none where nothing is refused
abbrev pub failed_in : {T : Type 0} → Result T Refusal → Option RawAvp
failed_in (Ok value) = None
failed_in (Err refusal) = refusal.failed

-- The AVP at fault where a message is refused with a code by a node with this profile: that
-- of the view, where this is its code. Else DIAMETER_INVALID_AVP_LENGTH is a relay's, which looks at nothing
-- but whether the body is a list of AVPs, and no other code names an AVP.
abbrev pub failed_for : RequestProfile → ResultCode → Message → Option RawAvp
failed_for profile code message =
    if is_refused_with code (view_under profile message) then failed_in (view_under profile message)
    else if number_of code == number_of InvalidAvpLength then failed_in (avps_of message.body) else None

abbrev pub refusal_by_code : RequestProfile → ResultCode → Message → Refusal
refusal_by_code profile code message = record { code = code; failed = failed_for profile code message }
