-- The AVP at fault, as a refusal holds it (RFC 6733, section 7.5).
use Rattle.std.specs.Prelude.{ℕ, List, [], ◌∷◌, length, drop, replicate, Bool, ◌&&◌, ◌==◌, nat_le, if◌then◌else◌, Option, Some, None}
use Rattle.dia_avp.specs.declared.avp.RawAvp.{RawAvp}
use Rattle.dia_avp.specs.declared.fault.AvpFault.{AvpFault}
use Rattle.dia_avp.specs.declared.fault.AvpFault.TheVariants.{LengthTooSmall, Overrun}
use Rattle.dia_avp.specs.AvpList.{length_of, flags_in, vendor_in, has_vendor}
use Rattle.dia_dict.specs.declared.row.Kind.{Kind}
use Rattle.dia_dict.specs.declared.row.Kind.TheVariants.{Unsigned32, Unsigned64, Integer32, Integer64, Time, Enumerated}
use Rattle.dia_dict.specs.Dictionary.{kind_of}
use Rattle.dia_base.specs.Codes.{failed_avp}
use Rattle.cc_view.specs.Answer.Writing.{group_avp}

-- ---- the least form

-- how many octets a value of the kind has, none where the kind leaves that open
abbrev pub fixed_len : Kind → ℕ
fixed_len Unsigned32 = 4
fixed_len Unsigned64 = 8
fixed_len Integer32 = 4
fixed_len Integer64 = 8
fixed_len Time = 4
fixed_len Enumerated = 4
fixed_len _ = 0

abbrev pub least_len : Option Kind → ℕ
least_len (Some kind) = fixed_len kind
least_len None = 0

-- the kind of an AVP by the dictionary, which has rows without vendor alone
unfoldable pub kind_at : ℕ → ℕ → Option Kind
kind_at code vendor = if vendor == 0 then kind_of code else None

-- the least form of an AVP: its value is as many zeros as its kind has octets
abbrev pub least_form : ℕ → ℕ → ℕ → RawAvp
least_form code flags vendor = record {
  code = code;
  flags = flags;
  vendor = vendor;
  value = replicate (least_len (kind_at code vendor)) 0;
}

-- ---- which AVP

-- it takes at most 8,192 octets
abbrev pub is_copied : RawAvp → Bool
is_copied avp = nat_le (length_of avp) 8192

-- an AVP that was received: a copy, or its least form where that would take too much
abbrev pub copy_or_least_form : RawAvp → RawAvp
copy_or_least_form avp = if is_copied avp then avp else least_form avp.code avp.flags avp.vendor

-- an AVP that is missing has the flag M, 40 in hexadecimal
abbrev pub missing_avp : ℕ → RawAvp
missing_avp code = least_form code 64 0

-- the vendor of the AVP that octets begin with, 0 where they end before it
abbrev pub vendor_at : List ℕ → ℕ
vendor_at octets = if has_vendor (flags_in octets) && nat_le 12 (length octets) then vendor_in octets else 0

-- the AVP at which octets cannot go on, none where no whole header is left
abbrev pub broken_avp_in : List ℕ → AvpFault → Option RawAvp
broken_avp_in octets (LengthTooSmall at code) = Some (least_form code (flags_in (drop at octets)) (vendor_at (drop at octets)))
broken_avp_in octets (Overrun at code) = Some (least_form code (flags_in (drop at octets)) (vendor_at (drop at octets)))
broken_avp_in octets _ = None

-- ---- Failed-AVP

-- Failed-AVP with the AVP as it is given. One that takes more than 8,192 octets is not written: no
-- view names one.
abbrev pub failed_part : Option RawAvp → List RawAvp
failed_part (Some avp) = if is_copied avp then group_avp failed_avp (avp ∷ []) ∷ [] else []
failed_part None = []
