-- What a relay has read in the body of a request, as the code holds it: in place of a list of AVPs three parts of the body.
use Rattle.std.specs.Prelude.{◌≡◌, ℕ, Bool, List, [], Option, Some, None, if◌then◌else◌, Result, Ok, Err}
use Rattle.std.specs.Option.{option_copied}
use Rattle.dia_avp.specs.declared.avp.RawAvp.{RawAvp}
use Rattle.dia_avp.specs.declared.fault.AvpFault.{AvpFault}
use Rattle.dia_avp.specs.AvpReading.{split_of}
use Rattle.relay_routes.specs.Routing.{names_node}
use Rattle.relay_core.specs.declared.reading.Reading.{Reading}
use Rattle.relay_core.specs.NextHop.{host_in, realm_in}

abbrev pub avps_or_none : Result (List RawAvp) AvpFault → List RawAvp
avps_or_none (Ok avps) = avps
avps_or_none (Err fault) = []

-- the AVPs that octets spell; of octets that spell none there are none
abbrev pub avps_in_octets : List ℕ → List RawAvp
avps_in_octets octets = avps_or_none (split_of octets)

-- the AVPs of a part of the body, where there is such a part
abbrev pub avps_in_part : Option (List ℕ) → List RawAvp
avps_in_part (Some octets) = avps_in_octets octets
avps_in_part None = []

-- the first of its kind: what was found before, or else what comes next, if it is of the kind
abbrev pub first_or : Option (List ℕ) → Bool → List ℕ → Option (List ℕ)
first_or (Some found) is_next next = Some found
first_or None is_next next = if is_next then Some next else None

-- The reading of a body: its Destination-Host and its Destination-Realm, and a part of it whose AVPs name the nodes that those of the
-- whole body name.
pub record IsReadingOf (body : List ℕ) (reading : Reading) : Type 0 where
  pub host : option_copied reading.host ≡ host_in (avps_in_octets body)
  pub realm : option_copied reading.realm ≡ realm_in (avps_in_octets body)
  pub records : (node : List ℕ) → names_node node (avps_in_part (option_copied reading.records)) ≡ names_node node (avps_in_octets body)
