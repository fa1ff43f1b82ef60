-- What the services of a request ask and have used, by the tariffs (RFC 8506, sections 8.18 and 8.19).
use Rattle.std.specs.Prelude.{ℕ, ◌+◌, List, [], ◌∷◌, slice_index_or, Option, None, unwrap_or, find}
use Rattle.std.specs.Option.{option_map}
use Rattle.dia_base.specs.declared.number.Code.{Code}
use Rattle.cc_rating.specs.declared.tariff.Tariff.{Tariff}
use Rattle.cc_rating.specs.declared.tariff.UnitKind.{UnitKind}
use Rattle.cc_rating.specs.declared.tariff.UnitKind.TheVariants.{Time, Octets, Units}
use Rattle.cc_rating.specs.Rating.{cost_of}
use Rattle.cc_rating.specs.Tariffs.{rates}
use Rattle.cc_view.specs.declared.request.Service.{Service}

-- the tariff of a service
abbrev pub tariff_of : List Tariff → Service → Option Tariff
tariff_of tariffs service = find (rates service.group service.ident) tariffs

-- the place of a unit's count among those of a service
abbrev pub count_place : UnitKind → ℕ
count_place Time = 0
count_place Octets = 1
count_place Units = 2

-- The code of the AVP in which units are told: CC-Time (420), CC-Total-Octets (421) or CC-Service-Specific-Units
-- (417).
abbrev pub unit_code : UnitKind → Code
unit_code Time = record { 0 = 420 }
unit_code Octets = record { 0 = 421 }
unit_code Units = record { 0 = 417 }

-- The units that a service asks for, none without a Requested-Service-Unit (RFC 8506, section 8.18). An
-- absent count asks for the quantum.
abbrev pub asked_of : Tariff → Service → Option ℕ
asked_of tariff service = option_map (λ counts. unwrap_or (slice_index_or counts (count_place tariff.kind) None) tariff.quantum) service.asked

-- what the asked units cost, 0 where none are asked
abbrev pub asking_cost : Tariff → Service → ℕ
asking_cost tariff service = unwrap_or (option_map (cost_of tariff) (asked_of tariff service)) 0

-- the units that a service has used, in all its Used-Service-Units
abbrev pub used_of : Tariff → Service → ℕ
used_of tariff service = slice_index_or service.used (count_place tariff.kind) 0

-- what the used units of a service cost at a tariff, 0 without one
abbrev pub used_cost : Option Tariff → Service → ℕ
used_cost tariff service = unwrap_or (option_map (λ found. cost_of found (used_of found service)) tariff) 0

-- what the used units of services cost, each at its tariff
abbrev pub used_total : (Service → Option Tariff) → List Service → ℕ
used_total price [] = 0
used_total price (service ∷ services) = used_cost (price service) service + used_total price services
