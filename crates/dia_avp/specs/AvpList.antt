-- AVPs as octets (RFC 6733, section 4.1). A number stands in network order, the highest octet first.
use Rattle.std.specs.Prelude.{◌≡◌, ◌≢◌, ℕ, ◌+◌, ◌-◌, ◌%◌, ◌≤◌, ◌<◌, ◌^◌, List, [], ◌∷◌, ◌++◌, length, drop, slice_range, replicate, flat_map, All, bit_and, not, slice_index, Bool, true, false, ◌==◌, nat_lt, if◌then◌else◌, Option, Some, None, Result, Ok, Err}
use Rattle.std.specs.Global.{Vec}
use Rattle.std.specs.Result.{result_map_both}
use Rattle.byteorder.specs.Endian.{big_number, big_bytes}
use Rattle.dia_base.specs.Answering.{Gives}
use Rattle.dia_avp.specs.declared.avp.RawAvp.{RawAvp}
use Rattle.dia_avp.specs.declared.fault.AvpFault.{AvpFault}
use Rattle.dia_avp.specs.declared.fault.AvpFault.TheVariants.{ShortHeader, LengthTooSmall, Overrun, OutOfMemory}

-- ---- where the fields of a header stand

abbrev pub code_in : List ℕ → ℕ
code_in octets = big_number 4 octets

abbrev pub flags_in : List ℕ → ℕ
flags_in octets = slice_index octets 4

abbrev pub length_in : List ℕ → ℕ
length_in octets = big_number 3 (drop 5 octets)

abbrev pub vendor_in : List ℕ → ℕ
vendor_in octets = big_number 4 (drop 8 octets)

-- whether the flags have V, 80 in hexadecimal
abbrev pub has_vendor : ℕ → Bool
has_vendor flags = not (bit_and flags 128 == 0)

-- whether the flags have M, 40 in hexadecimal: who does not know the AVP refuses the message
abbrev pub is_mandatory : ℕ → Bool
is_mandatory flags = not (bit_and flags 64 == 0)

abbrev pub header_len : ℕ → ℕ
header_len flags = if has_vendor flags then 12 else 8

-- the octets from a length up to the next multiple of 4
abbrev pub padding_of : ℕ → ℕ
padding_of len = (4 - len % 4) % 4

-- ---- what octets spell

-- The octets begin with an AVP, and `rest` stands behind its padding. The length counts all but the
-- padding, which is any octets. Behind the last AVP some of the padding may be missing, or all: to
-- drop more than there is leaves nothing.
pub record BeginsWith (octets : List ℕ) (avp : RawAvp) (rest : List ℕ) : Type 0 where
  pub header : 8 ≤ length octets
  pub least : header_len avp.flags ≤ length_in octets
  pub within : length_in octets ≤ length octets
  pub code : avp.code ≡ code_in octets
  pub flags : avp.flags ≡ flags_in octets
  pub vendor : avp.vendor ≡ (if has_vendor avp.flags then vendor_in octets else 0)
  pub value : avp.value ≡ slice_range octets (header_len avp.flags) (length_in octets)
  pub behind : rest ≡ drop (length_in octets + padding_of (length_in octets)) octets

-- the octets begin with these AVPs, one after the other, and `rest` is left
abbrev pub Begins : List ℕ → List RawAvp → List ℕ → Type 0
Begins octets [] rest = octets ≡ rest
Begins octets (avp ∷ avps) rest = (between : List ℕ) × BeginsWith octets avp between × Begins between avps rest

abbrev pub IsSpelling : List ℕ → List RawAvp → Type 0
IsSpelling octets avps = Begins octets avps []

-- ---- the first fault

-- why octets begin with no AVP, if they do not, where they stand at this place
abbrev pub fault_at : ℕ → List ℕ → Option AvpFault
fault_at at octets =
    if nat_lt (length octets) 8 then Some (ShortHeader at)
    else if nat_lt (length_in octets) (header_len (flags_in octets)) then Some (LengthTooSmall at (code_in octets))
    else if nat_lt (length octets) (length_in octets) then Some (Overrun at (code_in octets)) else None

-- behind AVPs at the front something is left that begins with none
pub record IsFirstFault (octets : List ℕ) (fault : AvpFault) : Type 0 where
  pub front : List RawAvp
  pub left : List ℕ
  pub begins : Begins octets front left
  pub some : left ≢ []
  pub why : fault_at (length octets - length left) left ≡ Some fault

-- what octets read as: the AVPs that they spell, or the first fault
abbrev pub Reads : List ℕ → Result (List RawAvp) AvpFault → Type 0
Reads octets (Ok avps) = IsSpelling octets avps
Reads octets (Err fault) = IsFirstFault octets fault

abbrev pub lacks_memory : AvpFault → Bool
lacks_memory OutOfMemory = true
lacks_memory _ = false

-- a result with the AVPs as a list
abbrev pub items_of : Result (Vec RawAvp) AvpFault → Result (List RawAvp) AvpFault
items_of result = result_map_both (λ avps. avps.items) (λ fault. fault) result

-- a call answered with a reading that P takes, unless memory ran out
abbrev pub Answers : (Result (List RawAvp) AvpFault → Type 0) → Result (Vec RawAvp) AvpFault → Type 0
Answers P result = Gives lacks_memory P (items_of result)

-- ---- how an AVP is written

-- the length that an AVP says, without padding
abbrev pub length_of : RawAvp → ℕ
length_of avp = header_len avp.flags + length avp.value

abbrev pub vendor_of : RawAvp → List ℕ
vendor_of avp = if has_vendor avp.flags then big_bytes 4 avp.vendor else []

-- code, flags, length, Vendor-ID and value
abbrev pub unpadded : RawAvp → List ℕ
unpadded avp = big_bytes 4 avp.code ++ (avp.flags ∷ big_bytes 3 (length_of avp)) ++ vendor_of avp ++ avp.value

-- the written spelling: all of the padding is there, and it is zero
abbrev pub written : RawAvp → List ℕ
written avp = unpadded avp ++ replicate (padding_of (length_of avp)) 0

-- the AVP with these parts
abbrev pub raw_avp : ℕ → ℕ → ℕ → List ℕ → RawAvp
raw_avp code flags vendor value = record { code = code; flags = flags; vendor = vendor; value = value }

-- the written spellings of AVPs, one after the other
abbrev pub written_list : List RawAvp → List ℕ
written_list avps = flat_map written avps

-- The numbers fit their places, and a vendor stands there only with V: so the written spelling is read back.
pub record HasSpelling (avp : RawAvp) : Type 0 where
  pub code : avp.code < 2 ^ 32
  pub vendor : avp.vendor < 2 ^ 32
  pub no_vendor : has_vendor avp.flags ≡ false → avp.vendor ≡ 0
  pub long : length_of avp < 2 ^ 24

-- octets of AVPs with the padding that the last one may lack: zeros up to a multiple of 4
abbrev pub with_padding : List ℕ → List ℕ
with_padding octets = octets ++ replicate (padding_of (length octets)) 0

-- octets of AVPs with one AVP more behind them
abbrev pub with_avp : List ℕ → RawAvp → List ℕ
with_avp octets avp = with_padding octets ++ written avp

-- ---- which octets spell one AVP

abbrev pub AreOctets : List ℕ → Type 0
AreOctets octets = All (λ octet. octet < 256) octets

-- The octets are those of the AVP, its padding and the rest. The padding is of the right length,
-- but that some of it, or all, may be missing where nothing follows.
pub record HasPadding (octets : List ℕ) (avp : RawAvp) (rest : List ℕ) : Type 0 where
  pub padding : List ℕ
  pub parts : octets ≡ unpadded avp ++ padding ++ rest
  pub most : length padding ≤ padding_of (length_of avp)
  pub whole : rest ≢ [] → length padding ≡ padding_of (length_of avp)
