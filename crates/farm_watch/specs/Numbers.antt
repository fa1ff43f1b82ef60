-- The numbers of the messages between two neighbours (RFC 6733, sections 3.1, 4.5, 5.3 to 5.5, 7.1 and 11.2).
-- They are apart from the constants, so that a wrong constant is refused.
use Rattle.std.specs.Prelude.{ℕ}

-- ---- Command Codes

abbrev pub capabilities_exchange : ℕ
capabilities_exchange = 257

abbrev pub device_watchdog : ℕ
device_watchdog = 280

abbrev pub disconnect_peer : ℕ
disconnect_peer = 282

-- ---- Application-IDs

-- of the commands between neighbours
abbrev pub common_messages : ℕ
common_messages = 0

-- what a relay advertises
abbrev pub relay_application : ℕ
relay_application = 4294967295

-- ---- codes of AVPs

abbrev pub host_ip_address : ℕ
host_ip_address = 257

abbrev pub vendor_specific_application_id : ℕ
vendor_specific_application_id = 260

abbrev pub supported_vendor_id : ℕ
supported_vendor_id = 265

abbrev pub vendor_id : ℕ
vendor_id = 266

abbrev pub disconnect_cause : ℕ
disconnect_cause = 273

abbrev pub origin_state_id : ℕ
origin_state_id = 278

-- ---- Result-Codes

abbrev pub success : ℕ
success = 2001

abbrev pub no_common_application : ℕ
no_common_application = 5010

-- ---- values of Disconnect-Cause (5.4.3)

abbrev pub busy : ℕ
busy = 1

abbrev pub do_not_want_to_talk_to_you : ℕ
do_not_want_to_talk_to_you = 2
