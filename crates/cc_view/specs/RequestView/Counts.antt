-- Units that a request asks for or has used (RFC 8506, sections 8.18 and 8.19). Counts stand in the
-- order time, octets, service-specific units.
use Rattle.std.specs.Prelude.{ℕ, List, [], ◌∷◌, length, filter, find, sum_by, ◌==◌, if◌then◌else◌, Option, Some, None, option_map}
use Rattle.std.specs.Option.{option_and_then, unwrap_or}
use Rattle.std.specs.Result.{result_ok}
use Rattle.byteorder.specs.Endian.{big_number}
use Rattle.dia_avp.specs.declared.avp.RawAvp.{RawAvp}
use Rattle.dia_avp.specs.AvpReading.{split_of}
use Rattle.dia_grammar.specs.Grammar.{is_of}
use Rattle.dia_base.specs.Codes.{requested_service_unit, cc_service_specific_units, cc_time, cc_total_octets, used_service_unit}

-- the number that a value of 4 octets is, and of 8
abbrev pub u32_value : RawAvp → Option ℕ
u32_value avp = if length avp.value == 4 then Some (big_number 4 avp.value) else None

abbrev pub u64_value : RawAvp → Option ℕ
u64_value avp = if length avp.value == 8 then Some (big_number 8 avp.value) else None

-- the number in the first AVP of this code
abbrev pub u32_in : ℕ → List RawAvp → Option ℕ
u32_in code avps = option_and_then u32_value (find (is_of code) avps)

abbrev pub u64_in : ℕ → List RawAvp → Option ℕ
u64_in code avps = option_and_then u64_value (find (is_of code) avps)

-- the AVPs in a group
abbrev pub members_of : RawAvp → List RawAvp
members_of avp = unwrap_or (result_ok (split_of avp.value)) []

-- the counts in a group of units
abbrev pub time_of : RawAvp → Option ℕ
time_of avp = u32_in cc_time (members_of avp)

abbrev pub octets_of : RawAvp → Option ℕ
octets_of avp = u64_in cc_total_octets (members_of avp)

abbrev pub units_of : RawAvp → Option ℕ
units_of avp = u64_in cc_service_specific_units (members_of avp)

abbrev pub counts_of : RawAvp → List (Option ℕ)
counts_of avp = time_of avp ∷ octets_of avp ∷ units_of avp ∷ []

-- the counts of Requested-Service-Unit, if it is there
abbrev pub asked_in : List RawAvp → Option (List (Option ℕ))
asked_in avps = option_map counts_of (find (is_of requested_service_unit) avps)

-- the sum of one count over all Used-Service-Units: a count that is not there is 0
abbrev pub used_by : (RawAvp → Option ℕ) → List RawAvp → ℕ
used_by count avps = sum_by (λ avp. unwrap_or (count avp) 0) (filter (is_of used_service_unit) avps)

abbrev pub used_in : List RawAvp → List ℕ
used_in avps = used_by time_of avps ∷ used_by octets_of avps ∷ used_by units_of avps ∷ []
