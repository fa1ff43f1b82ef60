-- What a node reads in the capabilities of a neighbour (RFC 6733, sections 2.4 and 5.3). The AVPs that are looked at are of vendor 0.
use Rattle.std.specs.Prelude.{ℕ, List, [], Bool, true, false, ◌==◌, ◌&&◌, ◌||◌, length, find, if◌then◌else◌, Option, Some, None, option_map, option_and_then, Result, Ok, Err}
use Rattle.std.specs.List.{list_any}
use Rattle.byteorder.specs.Endian.{big_number}
use Rattle.dia_base.specs.Codes.{auth_application_id, credit_control_application, origin_host, result_code}
use Rattle.dia_base.specs.Folding.{same_folded}
use Rattle.dia_base.specs.declared.number.NodeNo.{NodeNo}
use Rattle.dia_avp.specs.declared.avp.RawAvp.{RawAvp}
use Rattle.dia_avp.specs.declared.fault.AvpFault.{AvpFault}
use Rattle.dia_avp.specs.AvpReading.{split_of}
use Rattle.farm_watch.specs.declared.reading.Greeting.{Greeting}
use Rattle.farm_watch.specs.declared.reading.Greeting.TheVariants.{Unwelcome, NothingInCommon, Welcome}
use Rattle.farm_watch.specs.declared.site.Application.{Application}
use Rattle.farm_watch.specs.declared.site.Application.TheVariants.{Relay, CreditControl}
use Rattle.farm_watch.specs.declared.site.Neighbour.{Neighbour}
use Rattle.farm_watch.specs.declared.site.WatchSite.{WatchSite}
use Rattle.farm_watch.specs.Numbers.{relay_application, success, vendor_specific_application_id}

-- ---- AVPs

abbrev pub read_avps : Result (List RawAvp) AvpFault → List RawAvp
read_avps (Ok avps) = avps
read_avps (Err fault) = []

-- the AVPs that octets spell, none where they spell no list
abbrev pub avps_in : List ℕ → List RawAvp
avps_in octets = read_avps (split_of octets)

abbrev pub is_of : ℕ → RawAvp → Bool
is_of code avp = avp.code == code && avp.vendor == 0

-- the value is this Unsigned32
abbrev pub has_number : ℕ → RawAvp → Bool
has_number n avp = length avp.value == 4 && big_number 4 avp.value == n

-- ---- who it is

-- the first neighbour of this name, without case
abbrev pub neighbour_named : List Neighbour → List ℕ → Option Neighbour
neighbour_named neighbours name = find (λ neighbour. same_folded neighbour.name name) neighbours

-- the neighbour that the first Origin-Host names
abbrev pub neighbour_of : WatchSite → List RawAvp → Option NodeNo
neighbour_of site avps =
    option_map (λ neighbour. neighbour.node) (option_and_then (λ origin. neighbour_named site.neighbours origin.value) (find (is_of origin_host) avps))

abbrev pub is_node : NodeNo → Option NodeNo → Bool
is_node node None = false
is_node node (Some other) = other.0 == node.0

-- the first Origin-Host names this neighbour
abbrev pub is_named : WatchSite → NodeNo → List RawAvp → Bool
is_named site node avps = is_node node (neighbour_of site avps)

-- the octets of the first Origin-Host
abbrev pub name_in : List RawAvp → Option (List ℕ)
name_in avps = option_map (λ avp. avp.value) (find (is_of origin_host) avps)

abbrev pub is_up : List NodeNo → NodeNo → Bool
is_up up node = list_any (λ other. other.0 == node.0) up

-- ---- what it speaks

-- Auth-Application-Id of Credit-Control, or of a relay, which speaks all (2.4)
abbrev pub advertises : RawAvp → Bool
advertises avp = is_of auth_application_id avp && (has_number credit_control_application avp || has_number relay_application avp)

-- it stands alone or inside a Vendor-Specific-Application-Id (6.11)
abbrev pub is_advertised : RawAvp → Bool
is_advertised avp = if is_of vendor_specific_application_id avp then list_any advertises (avps_in avp.value) else advertises avp

abbrev pub is_shared : Application → List RawAvp → Bool
is_shared Relay avps = true
is_shared CreditControl avps = list_any is_advertised avps

-- ---- what becomes of it

abbrev pub greeting_by : List NodeNo → Option NodeNo → Bool → Greeting
greeting_by up None shared = Unwelcome
greeting_by up (Some node) shared = if is_up up node then Unwelcome else if shared then Welcome node else NothingInCommon

-- of a node that says this of itself, where these nodes are up
abbrev pub greeting_to : WatchSite → List NodeNo → List RawAvp → Greeting
greeting_to site up avps = greeting_by up (neighbour_of site avps) (is_shared site.application avps)

abbrev pub is_success_in : Option RawAvp → Bool
is_success_in (Some avp) = has_number success avp
is_success_in None = false

-- the first Result-Code is DIAMETER_SUCCESS
abbrev pub is_success : List RawAvp → Bool
is_success avps = is_success_in (find (is_of result_code) avps)
