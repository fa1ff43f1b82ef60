-- The tariffs of a site: each in its ranges, and no two for the same services.
use Rattle.std.specs.Prelude.{ℕ, ◌-◌, ◌^◌, List, [], ◌∷◌, ◌++◌, Bool, false, ◌&&◌, ◌||◌, not, ◌==◌, nat_le, if◌then◌else◌, Option, Some, None, is_some, IsTrue}
use Rattle.std.specs.List.{list_any, list_all}
use Rattle.std.specs.Option.{option_eq, option_or}
use Rattle.cc_rating.specs.declared.tariff.Tariff.{Tariff}
use Rattle.cc_rating.specs.declared.tariff.UnitKind.{UnitKind}
use Rattle.cc_rating.specs.declared.tariff.UnitKind.TheVariants.{Time, Octets, Units}
use Rattle.cc_rating.specs.declared.tariffs.TariffFault.{TariffFault}
use Rattle.cc_rating.specs.declared.tariffs.TariffFault.TheVariants.{Twice, OutOfRange}

-- whether the tariff rates a service: by its Rating-Group where it has one, else by its Service-Identifier
abbrev pub rates : Option ℕ → Option ℕ → Tariff → Bool
rates (Some group) ident tariff = option_eq ◌==◌ tariff.group (Some group)
rates None (Some ident) tariff = option_eq ◌==◌ tariff.ident (Some ident)
rates None None tariff = false

-- from 1 up to a limit
abbrev pub from_one : ℕ → ℕ → Bool
from_one limit n = nat_le 1 n && nat_le n limit

-- the most units of a quantum and of a grant: CC-Time has 32 bits
abbrev pub units_limit : UnitKind → ℕ
units_limit Time = 2 ^ 32 - 1
units_limit Octets = 2 ^ 63 - 1
units_limit Units = 2 ^ 63 - 1

abbrev pub has_key : Tariff → Bool
has_key tariff = is_some tariff.group || is_some tariff.ident

-- a block has up to 2 ^ 32 units, and costs up to 2 ^ 20
abbrev pub in_range : Tariff → Bool
in_range tariff =
    has_key tariff
    && (from_one (2 ^ 32) tariff.block
    && (nat_le tariff.price (2 ^ 20)
    && (from_one (units_limit tariff.kind) tariff.quantum && from_one (units_limit tariff.kind) tariff.greatest)))

-- a tariff has one key: a group or an identifier, which no earlier tariff has
abbrev pub is_twice : List Tariff → Tariff → Bool
is_twice before tariff = (is_some tariff.group && is_some tariff.ident) || list_any (rates tariff.group tariff.ident) before

-- the fault of a tariff with these before it
abbrev pub fault_after : List Tariff → Tariff → Option TariffFault
fault_after before tariff = if not (in_range tariff) then Some OutOfRange else if is_twice before tariff then Some Twice else None

abbrev pub fault_from : List Tariff → List Tariff → Option TariffFault
fault_from before [] = None
fault_from before (tariff ∷ after) = option_or (fault_after before tariff) (fault_from (before ++ tariff ∷ []) after)

-- the fault of the first tariff that has one
abbrev pub fault_of : List Tariff → Option TariffFault
fault_of tariffs = fault_from [] tariffs

abbrev pub AreInRange : List Tariff → Type 0
AreInRange tariffs = IsTrue (list_all in_range tariffs)
