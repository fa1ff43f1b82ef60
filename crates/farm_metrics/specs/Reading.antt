-- AVPs of an answer, as far as they are read for its Result-Code.
use Rattle.std.specs.Prelude.{◌==◌, ◌+◌, ◌*◌, ◌/◌, ◌&&◌, ℕ, zero, suc, List, Bool, Option, Some, None, bit_and, drop, length, nat_lt, slice_index, slice_range, take, if◌then◌else◌}
use Rattle.byteorder.specs.Endian.{big_number}

-- the length that the header of an AVP has (RFC 6733, section 4.1)
abbrev pub length_in : List ℕ → ℕ
length_in avp = big_number 3 (slice_range avp 5 8)

-- the octets up to the next AVP, which begins at a multiple of four; 0 where no header is whole
abbrev pub room_of : List ℕ → ℕ
room_of avp = if nat_lt (length avp) 8 then 0 else if nat_lt (length_in avp) 8 then 0 else (length_in avp + 3) / 4 * 4

-- the code 268, no vendor, and a value of four octets (RFC 6733, section 7.1)
abbrev pub is_result_code : List ℕ → Bool
is_result_code avp = (big_number 4 (take 4 avp) == 268) && (bit_and (slice_index avp 4) 128 == 0) && (length_in avp == 12)

-- the value of an AVP that is a Result-Code
abbrev pub code_in : List ℕ → Option ℕ
code_in avp = if nat_lt (length avp) 12 then None else if is_result_code avp then Some (big_number 4 (slice_range avp 8 12)) else None

-- the code of the first AVP; else that of the others, where it is known where they begin
abbrev pub code_or : Option ℕ → ℕ → ℕ → ℕ
code_or (Some code) room others = code
code_or None room others = if room == 0 then 0 else others

-- the first Result-Code in so many AVPs at most, which stand one behind the other; 0 where there is none before the first AVP
-- whose header is not whole
abbrev pub code_within : ℕ → List ℕ → ℕ
code_within zero avps = 0
code_within (suc count) avps = code_or (code_in avps) (room_of avps) (code_within count (drop (room_of avps) avps))

-- an AVP has 8 octets at least, so that there are fewer of them than octets
abbrev pub code_of : List ℕ → ℕ
code_of avps = code_within (length avps) avps
