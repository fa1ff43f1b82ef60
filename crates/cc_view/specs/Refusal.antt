-- Why a request is refused (RFC 6733, section 7.1.5; RFC 8506, section 9).
pub mod FailedAvp
pub mod FaultyAvps
use Rattle.std.specs.Prelude.{ℕ, List, slice_get, Option, Some, None, option_map, Result, Ok, Err}
use Rattle.std.specs.Option.{option_and_then}
use Rattle.dia_avp.specs.declared.avp.RawAvp.{RawAvp}
use Rattle.dia_avp.specs.declared.fault.AvpFault.{AvpFault}
use Rattle.dia_avp.specs.AvpReading.{split_of}
use Rattle.dia_grammar.specs.declared.fault.GrammarFault.{GrammarFault}
use Rattle.dia_grammar.specs.declared.fault.GrammarFault.TheVariants.{Missing, Twice, UnknownM, FirstNotSessionId}
use Rattle.dia_grammar.specs.Profile.{RequestProfile}
use Rattle.dia_grammar.specs.Grammar.{grammar_fault}
use Rattle.cc_view.specs.declared.code.ResultCode.{ResultCode}
use Rattle.cc_view.specs.declared.code.ResultCode.TheVariants.{AvpUnsupported, AvpOccursTooManyTimes, InvalidAvpLength, MissingAvp, UnableToComply}
use Rattle.cc_view.specs.declared.refusal.Refusal.{Refusal}
use Rattle.cc_view.specs.Refusal.FailedAvp.{broken_avp_in, copy_or_least_form, missing_avp}

-- a refusal that names no AVP
abbrev pub refusal_with : ResultCode → Refusal
refusal_with code = record { code = code; failed = None }

-- a refusal for an AVP that was received
abbrev pub refusal_for : ResultCode → RawAvp → Refusal
refusal_for code avp = record { code = code; failed = Some (copy_or_least_form avp) }

-- a refusal for an AVP that is missing
abbrev pub refusal_for_missing : ℕ → Refusal
refusal_for_missing code = record { code = MissingAvp; failed = Some (missing_avp code) }

-- a refusal of octets that are no list of AVPs, for this fault
abbrev pub refusal_of_octets : List ℕ → AvpFault → Refusal
refusal_of_octets octets fault = record { code = InvalidAvpLength; failed = broken_avp_in octets fault }

-- the AVPs that octets split into, or why they are refused
abbrev pub avps_by : List ℕ → Result (List RawAvp) AvpFault → Result (List RawAvp) Refusal
avps_by octets (Ok avps) = Ok avps
avps_by octets (Err fault) = Err (refusal_of_octets octets fault)

-- The AVPs of octets, or their refusal. A relay refuses a body so too.
abbrev pub avps_of : List ℕ → Result (List RawAvp) Refusal
avps_of octets = avps_by octets (split_of octets)

-- a refusal for the AVP at this place
abbrev pub refusal_at : ResultCode → List RawAvp → ℕ → Option Refusal
refusal_at code avps at = option_map (refusal_for code) (slice_get avps at)

-- what is found, unless there is a refusal
abbrev pub unless_refused : {T : Type 0} → Option Refusal → Result T Refusal → Result T Refusal
unless_refused (Some refusal) found = Err refusal
unless_refused None found = found

-- ---- the command's grammar

abbrev pub refusal_by_fault : List RawAvp → GrammarFault → Option Refusal
refusal_by_fault avps (Missing code) = Some (refusal_for_missing code)
refusal_by_fault avps FirstNotSessionId = Some (refusal_with UnableToComply)
refusal_by_fault avps (UnknownM at) = refusal_at AvpUnsupported avps at
refusal_by_fault avps (Twice at) = refusal_at AvpOccursTooManyTimes avps at

-- why AVPs, as they are counted under a profile, are refused for breaking the grammar
abbrev pub grammar_refusal : RequestProfile → List RawAvp → Option Refusal
grammar_refusal profile avps = option_and_then (refusal_by_fault avps) (grammar_fault profile avps)
