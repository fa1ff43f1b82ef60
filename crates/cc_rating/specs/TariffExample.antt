-- Worked examples: a tariff of 5 for each block of 1000 octets, for the Rating-Group 10, and others that differ from it in
-- a few fields.
use Rattle.std.specs.Prelude.{ℕ, [], ◌∷◌, ◌-◌, ◌^◌, Bool, Option, Some, None}
use Rattle.cc_rating.specs.declared.tariff.Grant.{Grant}
use Rattle.cc_rating.specs.declared.tariff.Tariff.{Tariff}
use Rattle.cc_rating.specs.declared.tariff.UnitKind.TheVariants.{Octets}
use Rattle.cc_rating.specs.declared.tariffs.TariffFault.{TariffFault}
use Rattle.cc_rating.specs.Tariffs.{fault_of}

abbrev pub by_group : Tariff
by_group = record {
  group = Some 10;
  ident = None;
  kind = Octets;
  block = 1000;
  price = 5;
  quantum = 5000;
  greatest = 10000;
}

-- each octet at the highest price
abbrev pub dear : Tariff
dear = record by_group { block = 1; price = 1048576 }

abbrev pub gift : Tariff
gift = record by_group { price = 0 }

-- for a Service-Identifier
abbrev pub by_identifier : Tariff
by_identifier = record by_group { group = None; ident = Some 7 }

abbrev pub by_both : Tariff
by_both = record by_group { ident = Some 7 }

abbrev pub by_neither : Tariff
by_neither = record by_group { group = None }

-- the most units that a request can ask: CC-Total-Octets has 64 bits
abbrev pub most_units : ℕ
most_units = 2 ^ 64 - 1

abbrev pub grant : ℕ → ℕ → Bool → Grant
grant units held last = record { units = units; held = held; last = last }

-- the fault of a tariff behind the first one, which has none
abbrev pub fault_behind : Tariff → Option TariffFault
fault_behind tariff = fault_of (by_group ∷ tariff ∷ [])
