-- Worked examples: AVPs, and octets in hexadecimal. A direct debit of 3200 octets (RFC 8506, section 3.1), and its answer (3.2).
use Rattle.std.specs.Prelude.{ℕ, List, [], ◌∷◌, codes, Result, Ok, Err}
use Rattle.hex.specs.declared.error.FromHexError.{FromHexError}
use Rattle.hex.specs.Hex.{decode_of}
use Rattle.dia_avp.specs.declared.avp.RawAvp.{RawAvp}
use Rattle.dia_avp.specs.declared.fault.AvpFault.{AvpFault}
use Rattle.dia_avp.specs.AvpList.{raw_avp, written_list}
use Rattle.dia_avp.specs.AvpReading.{split_of}

-- ---- octets in hexadecimal

abbrev pub octets_or_none : Result (List ℕ) FromHexError → List ℕ
octets_or_none (Ok octets) = octets
octets_or_none (Err fault) = []

-- the octets that digits spell
abbrev pub from_hex : List ℕ → List ℕ
from_hex digits = octets_or_none (decode_of digits)

abbrev pub split_hex : List ℕ → Result (List RawAvp) AvpFault
split_hex digits = split_of (from_hex digits)

-- ---- AVPs

-- one of vendor 0 with the flag M
abbrev pub avp : ℕ → List ℕ → RawAvp
avp code value = raw_avp code 64 0 value

abbrev pub group : ℕ → List RawAvp → RawAvp
group code avps = avp code (written_list avps)

-- one of a vendor, with the flags V and M
abbrev pub vendor_avp : ℕ → List ℕ → RawAvp
vendor_avp code value = raw_avp code 192 10415 value

abbrev pub letter : RawAvp
letter = avp 263 (codes "c")

abbrev pub session : RawAvp
session = avp 263 (codes "c1;1;1")

abbrev pub session_text : List ℕ
session_text = codes "000001074000000e63313b313b310000"

-- a Route-Record
abbrev pub record_avp : RawAvp
record_avp = avp 282 (codes "c1.example")

abbrev pub record_text : List ℕ
record_text = codes "0000011a4000001263312e6578616d706c650000"

-- CC-Total-Octets
abbrev pub octets_3200 : RawAvp
octets_3200 = avp 421 (0 ∷ 0 ∷ 0 ∷ 0 ∷ 0 ∷ 0 ∷ 12 ∷ 128 ∷ [])

-- a Rating-Group
abbrev pub group_10 : RawAvp
group_10 = avp 432 (0 ∷ 0 ∷ 0 ∷ 10 ∷ [])

-- a Result-Code
abbrev pub success : RawAvp
success = avp 268 (0 ∷ 0 ∷ 7 ∷ 209 ∷ [])

-- ---- whole bodies

abbrev pub request : List RawAvp
request =
    session ∷ avp 264 (codes "c1.example") ∷ avp 296 (codes "example") ∷ avp 283 (codes "ocs.example")
    ∷ avp 258 (0 ∷ 0 ∷ 0 ∷ 4 ∷ []) ∷ avp 461 (codes "32251@3gpp.org") ∷ avp 416 (0 ∷ 0 ∷ 0 ∷ 4 ∷ []) ∷ avp 415 (0 ∷ 0 ∷ 0 ∷ 0 ∷ [])
    ∷ avp 436 (0 ∷ 0 ∷ 0 ∷ 0 ∷ []) ∷ group 443 (avp 450 (0 ∷ 0 ∷ 0 ∷ 0 ∷ []) ∷ avp 444 (codes "491700000001") ∷ [])
    ∷ group 456 (group 437 (octets_3200 ∷ []) ∷ group_10 ∷ []) ∷ []

abbrev pub request_text : List ℕ
request_text = codes "000001074000000e63313b313b310000000001084000001263312e6578616d706c650000000001284000000f6578616d706c65000000011b400000136f63732e6578616d706c6500000001024000000c00000004000001cd40000016333232353140336770702e6f72670000000001a04000000c000000040000019f4000000c00000000000001b44000000c00000000000001bb40000028000001c24000000c00000000000001bc40000014343931373030303030303031000001c84000002c000001b540000018000001a5400000100000000000000c80000001b04000000c0000000a"

abbrev pub answer : List RawAvp
answer =
    session ∷ success ∷ avp 264 (codes "f1.example") ∷ avp 296 (codes "ocs.example")
    ∷ avp 258 (0 ∷ 0 ∷ 0 ∷ 4 ∷ []) ∷ avp 416 (0 ∷ 0 ∷ 0 ∷ 4 ∷ []) ∷ avp 415 (0 ∷ 0 ∷ 0 ∷ 0 ∷ [])
    ∷ group 456 (group 431 (octets_3200 ∷ []) ∷ group_10 ∷ success ∷ []) ∷ []

abbrev pub answer_text : List ℕ
answer_text = codes "000001074000000e63313b313b3100000000010c4000000c000007d1000001084000001266312e6578616d706c65000000000128400000136f63732e6578616d706c6500000001024000000c00000004000001a04000000c000000040000019f4000000c00000000000001c840000038000001af40000018000001a5400000100000000000000c80000001b04000000c0000000a0000010c4000000c000007d1"
