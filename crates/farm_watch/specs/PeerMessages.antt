-- The messages between two neighbours, octet for octet (RFC 6733, sections 5.3 to 5.5).
use Rattle.std.specs.Prelude.{ℕ, List, [], ◌∷◌, ◌++◌, Bool, true, false, ◌==◌, codes, flat_map, if◌then◌else◌, Option, Some, None, pos}
use Rattle.dia_base.specs.Codes.{auth_application_id, origin_host, origin_realm, product_name, result_code, credit_control_application}
use Rattle.dia_avp.specs.declared.avp.RawAvp.{RawAvp}
use Rattle.dia_avp.specs.AvpList.{written_list}
use Rattle.dia_dict.specs.declared.value.Typed.TheVariants.{Unsigned32, Enumerated, Utf8String, DiameterIdentity, Address, Grouped}
use Rattle.dia_dict.specs.Reading.{avp_of}
use Rattle.dia_message.specs.declared.header.Header.{Header}
use Rattle.dia_message.specs.declared.message.Message.{Message}
use Rattle.farm_watch.specs.declared.kind.MessageKind.{MessageKind}
use Rattle.farm_watch.specs.declared.kind.MessageKind.TheVariants.{Cer, Cea, Dwr, Dwa, Dpr, Dpa, Other}
use Rattle.farm_watch.specs.declared.site.Application.{Application}
use Rattle.farm_watch.specs.declared.site.Application.TheVariants.{Relay, CreditControl}
use Rattle.farm_watch.specs.declared.site.HostAddress.{HostAddress}
use Rattle.farm_watch.specs.declared.site.HostAddress.TheVariants.{V4, V6}
use Rattle.farm_watch.specs.declared.site.WatchSite.{WatchSite}
use Rattle.farm_watch.specs.Numbers.{capabilities_exchange, device_watchdog, disconnect_peer, common_messages, relay_application, host_ip_address, vendor_specific_application_id, supported_vendor_id, vendor_id, disconnect_cause, origin_state_id}

-- ---- which message it is

abbrev pub either : Bool → MessageKind → MessageKind → MessageKind
either request asks answers = if request then asks else answers

-- by the command and the flag R (3.1)
abbrev pub kind_of : Header → MessageKind
kind_of header =
    if header.command == capabilities_exchange then either header.request Cer Cea
    else if header.command == device_watchdog then either header.request Dwr Dwa
    else if header.command == disconnect_peer then either header.request Dpr Dpa else Other

-- ---- headers

-- A request of the node: the flag R alone, and one number as both identifiers.
abbrev pub request_header : ℕ → ℕ → Header
request_header command identifier = record {
  request = true;
  proxiable = false;
  error = false;
  resent = false;
  command = command;
  application = common_messages;
  hop = identifier;
  «end» = identifier;
}

-- An answer: no flag, and the command, the application and the identifiers of its request (6.2).
abbrev pub answer_header : Header → Header
answer_header request = record request { request = false; proxiable = false; error = false; resent = false }

-- ---- AVPs

-- who writes it (6.3, 6.4)
abbrev pub origin_part : WatchSite → List RawAvp
origin_part site = avp_of origin_host (DiameterIdentity site.name) ∷ avp_of origin_realm (DiameterIdentity site.realm) ∷ []

-- the family, 1 for IPv4 and 2 for IPv6, in two octets, and the address (4.3.1)
abbrev pub address_octets : HostAddress → List ℕ
address_octets (V4 octets) = 0 ∷ 1 ∷ octets
address_octets (V6 octets) = 0 ∷ 2 ∷ octets

-- what it advertises (2.4)
abbrev pub application_number : Application → ℕ
application_number Relay = relay_application
application_number CreditControl = credit_control_application

-- what it can do, for whatever vendor (5.3)
abbrev pub own_part : WatchSite → List RawAvp
own_part site =
    origin_part site
    ++ avp_of host_ip_address (Address (address_octets site.address)) ∷ []
    ++ avp_of vendor_id (Unsigned32 0) ∷ []
    ++ avp_of product_name (Utf8String (codes "Diameter relay farm")) ∷ []
    ++ avp_of auth_application_id (Unsigned32 (application_number site.application)) ∷ []

-- which state it has not lost, if it tells one (8.16)
abbrev pub state_in : Option ℕ → List RawAvp
state_in None = []
state_in (Some state) = avp_of origin_state_id (Unsigned32 state) ∷ []

abbrev pub state_part : WatchSite → List RawAvp
state_part site = state_in site.state

-- it stands in each message of this command but a goodbye's
abbrev pub state_beside : WatchSite → ℕ → List RawAvp
state_beside site command = if command == disconnect_peer then [] else state_part site

-- credit control as an application of a vendor (6.11)
abbrev pub vendor_application : ℕ → List RawAvp
vendor_application vendor =
    avp_of vendor_id (Unsigned32 vendor) ∷ avp_of auth_application_id (Unsigned32 credit_control_application) ∷ []

-- it speaks credit control for a vendor, whether it is a relay or not (5.3.6, 6.11)
abbrev pub vendor_part : ℕ → List RawAvp
vendor_part vendor =
    avp_of supported_vendor_id (Unsigned32 vendor)
    ∷ avp_of vendor_specific_application_id (Grouped (written_list (vendor_application vendor))) ∷ []

-- what it can do, its state, and for each vendor in order that it speaks credit control for that one (5.3)
abbrev pub capabilities_part : WatchSite → List RawAvp
capabilities_part site = own_part site ++ state_part site ++ flat_map vendor_part site.advertised

abbrev pub result_part : ℕ → List RawAvp
result_part code = avp_of result_code (Unsigned32 code) ∷ []

-- why it disconnects: REBOOTING, 0 (5.4.3)
abbrev pub cause_part : List RawAvp
cause_part = avp_of disconnect_cause (Enumerated (pos 0)) ∷ []

-- ---- messages

abbrev pub message_of : Header → List RawAvp → Message
message_of header avps = record { header = header; body = written_list avps }

-- Capabilities-Exchange-Request (5.3.1)
unfoldable pub cer : WatchSite → ℕ → Message
cer site identifier = message_of (request_header capabilities_exchange identifier) (capabilities_part site)

-- Capabilities-Exchange-Answer, with a Result-Code (5.3.2)
unfoldable pub cea : WatchSite → ℕ → Header → Message
cea site code request = message_of (answer_header request) (result_part code ++ capabilities_part site)

-- Device-Watchdog-Request (5.5.1)
unfoldable pub dwr : WatchSite → ℕ → Message
dwr site identifier = message_of (request_header device_watchdog identifier) (origin_part site ++ state_part site)

-- Disconnect-Peer-Request (5.4.1)
unfoldable pub dpr : WatchSite → ℕ → Message
dpr site identifier = message_of (request_header disconnect_peer identifier) (origin_part site ++ cause_part)

-- Device-Watchdog-Answer (5.5.2) and Disconnect-Peer-Answer (5.4.2), by the command, which is the request's
unfoldable pub success_to : WatchSite → Header → Message
success_to site request = message_of (answer_header request) (result_part 2001 ++ origin_part site ++ state_beside site request.command)
