-- The reading of octets as a function (RFC 6733, section 4.1). `split_of` is the one reading: the law stands on `one_reading`.
use Rattle.std.specs.Prelude.{ℕ, zero, suc, ◌+◌, ◌-◌, List, [], ◌∷◌, length, drop, slice_range, if◌then◌else◌, Option, Some, None, Result, Ok, Err}
use Rattle.std.specs.Global.{Vec}
use Rattle.dia_base.specs.Answering.{Answers}
use Rattle.dia_avp.specs.declared.avp.RawAvp.{RawAvp}
use Rattle.dia_avp.specs.declared.fault.AvpFault.{AvpFault}
use Rattle.dia_avp.specs.AvpList.{code_in, flags_in, length_in, vendor_in, has_vendor, header_len, padding_of, fault_at, lacks_memory, items_of}

-- the AVP that the octets begin with, where they begin with one
abbrev pub avp_at : List ℕ → RawAvp
avp_at octets = record {
  code = code_in octets;
  flags = flags_in octets;
  vendor = if has_vendor (flags_in octets) then vendor_in octets else 0;
  value = slice_range octets (header_len (flags_in octets)) (length_in octets);
}

-- what stands behind its padding
abbrev pub rest_at : List ℕ → List ℕ
rest_at octets = drop (length_in octets + padding_of (length_in octets)) octets

-- the AVP before those that follow, unless there is a fault here or behind
abbrev pub answer_of : Option AvpFault → RawAvp → Result (List RawAvp) AvpFault → Result (List RawAvp) AvpFault
answer_of (Some fault) avp rest = Err fault
answer_of None avp (Ok avps) = Ok (avp ∷ avps)
answer_of None avp (Err fault) = Err fault

-- What is left of `whole` octets, with at most so many AVPs.
unfoldable pub split_from : ℕ → ℕ → List ℕ → Result (List RawAvp) AvpFault
split_from n whole [] = Ok []
split_from zero whole (x ∷ xs) = Ok []
split_from (suc n) whole (x ∷ xs) = answer_of (fault_at (whole - length (x ∷ xs)) (x ∷ xs)) (avp_at (x ∷ xs)) (split_from n whole (rest_at (x ∷ xs)))

-- the AVPs that the octets spell, or their first fault
unfoldable pub split_of : List ℕ → Result (List RawAvp) AvpFault
split_of octets = split_from (length octets) (length octets) octets

-- a call answered with this reading, unless memory ran out
abbrev pub IsAnswer : Result (List RawAvp) AvpFault → Result (Vec RawAvp) AvpFault → Type 0
IsAnswer reading result = Answers lacks_memory reading (items_of result)
