-- What a credit-control server reads in a request (RFC 8506, section 3.1).
pub mod Checking
pub mod Content
pub mod Counting
pub mod Counts
pub mod Readable
pub mod Reading
pub mod Splitting
pub mod UnreadAvps
use Rattle.std.specs.Prelude.{◌≡◌, ℕ, List, not, ◌==◌, if◌then◌else◌, Option, Result, Ok, Err}
use Rattle.std.specs.Option.{option_or}
use Rattle.dia_avp.specs.declared.avp.RawAvp.{RawAvp}
use Rattle.dia_avp.specs.AvpReading.{split_of}
use Rattle.dia_message.specs.declared.header.Header.{Header}
use Rattle.dia_message.specs.declared.message.Message.{Message}
use Rattle.cc_view.specs.declared.code.ResultCode.TheVariants.{ApplicationUnsupported, CommandUnsupported, UnableToComply}
use Rattle.cc_view.specs.declared.refusal.Refusal.{Refusal}
use Rattle.cc_view.specs.declared.view.ViewError.{ViewError}
use Rattle.cc_view.specs.declared.view.ViewError.TheVariants.{Refused, OutOfMemory}
use Rattle.cc_view.specs.declared.request.CcRequest.{CcRequest}
use Rattle.cc_view.specs.Answer.Carried.{carries_too_much}
use Rattle.cc_view.specs.RequestView.Checking.{command_values, groups_refusal, values_refusal}
use Rattle.dia_base.specs.Codes.{credit_control_command, credit_control_application}
use Rattle.dia_grammar.specs.Profile.{RequestProfile, strict}
use Rattle.dia_grammar.specs.Request.{IsRequest}
use Rattle.cc_view.specs.RequestView.Content.{content_of}
use Rattle.cc_view.specs.RequestView.Counting.{counted}
use Rattle.cc_view.specs.Refusal.{refusal_with, grammar_refusal, avps_of, unless_refused}

-- Why the AVPs of a request are refused: for the grammar, then for a value, then for a group. What a
-- profile tolerates is told to the grammar alone: values and groups are those of the AVPs as they came.
abbrev pub request_refusal : RequestProfile → List RawAvp → Option Refusal
request_refusal profile avps =
    option_or (grammar_refusal profile (counted profile avps)) (option_or (values_refusal command_values avps) (groups_refusal profile avps))

-- the content is that of the AVPs as they came, whatever the profile
abbrev pub view_of_avps : RequestProfile → List RawAvp → Result CcRequest Refusal
view_of_avps profile avps =
    if carries_too_much avps then Err (refusal_with UnableToComply)
    else unless_refused (request_refusal profile avps) (content_of avps)

abbrev pub view_of_list : RequestProfile → Result (List RawAvp) Refusal → Result CcRequest Refusal
view_of_list profile (Ok avps) = view_of_avps profile avps
view_of_list profile (Err refusal) = Err refusal

-- What is read in a message under a profile: the first case that applies. Of the header only the
-- Application-ID and the Command Code are read.
unfoldable pub view_under : RequestProfile → Message → Result CcRequest Refusal
view_under profile message =
    if not (message.header.application == credit_control_application) then Err (refusal_with ApplicationUnsupported)
    else if not (message.header.command == credit_control_command) then Err (refusal_with CommandUnsupported)
    else view_of_list profile (avps_of message.body)

-- what is read by a server that knows AVPs of these vendors, and knows and tolerates nothing more
unfoldable pub view_of : List ℕ → Message → Result CcRequest Refusal
view_of vendors message = view_under (strict vendors) message

-- the request is what the AVPs of the message ask, as they came
abbrev pub Asks : Message → CcRequest → Type 0
Asks message request = (avps : List RawAvp) × (split_of message.body ≡ Ok avps) × (content_of avps ≡ Ok request)

-- what a message has where its AVPs, as they are counted under a profile, are those of a request
abbrev pub IsWhole : RequestProfile → Message → Type 0
IsWhole profile message = (avps : List RawAvp) × (split_of message.body ≡ Ok avps) × IsRequest profile (counted profile avps)

-- it is of Credit-Control, by its Application-ID and Command Code
abbrev pub IsCreditControl : Header → Type 0
IsCreditControl header = (header.application ≡ credit_control_application) × (header.command ≡ credit_control_command)

-- a call answered with this view, unless memory ran out
abbrev pub IsView : Result CcRequest Refusal → Result CcRequest ViewError → Type 0
IsView view (Ok request) = view ≡ Ok request
IsView view (Err (Refused refusal)) = view ≡ Err refusal
IsView view (Err OutOfMemory) = Unit {0}
