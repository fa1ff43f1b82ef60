-- Why a node says goodbye (RFC 6733, section 5.4.3).
use Rattle.std.specs.Prelude.{List, find, if◌then◌else◌, Option, Some, None}
use Rattle.dia_avp.specs.declared.avp.RawAvp.{RawAvp}
use Rattle.farm_watch.specs.Capabilities.{has_number, is_of}
use Rattle.farm_watch.specs.Numbers.{busy, disconnect_cause, do_not_want_to_talk_to_you}
use Rattle.farm_watch.specs.declared.cause.DisconnectCause.{DisconnectCause}
use Rattle.farm_watch.specs.declared.cause.DisconnectCause.TheVariants.{Rebooting, Busy, Unwanted}

-- what a Disconnect-Cause tells: another number counts as REBOOTING
abbrev pub cause_of : RawAvp → DisconnectCause
cause_of avp = if has_number busy avp then Busy else if has_number do_not_want_to_talk_to_you avp then Unwanted else Rebooting

abbrev pub cause_by : Option RawAvp → DisconnectCause
cause_by None = Rebooting
cause_by (Some avp) = cause_of avp

-- the cause in a Disconnect-Peer-Request with these AVPs, of which the first Disconnect-Cause counts
abbrev pub cause_in : List RawAvp → DisconnectCause
cause_in avps = cause_by (find (is_of disconnect_cause) avps)
