-- AVPs that are written here. Each has the flags 40 in hexadecimal: M, and no vendor.
use Rattle.std.specs.Prelude.{ℕ, ℤ, List, flat_map}
use Rattle.std.specs.Int.{cast_unsigned, w32, w64}
use Rattle.byteorder.specs.Endian.{big_bytes}
use Rattle.dia_avp.specs.declared.avp.RawAvp.{RawAvp}
use Rattle.dia_avp.specs.AvpList.{written}

abbrev pub octets_avp : ℕ → List ℕ → RawAvp
octets_avp code value = record { code = code; flags = 64; vendor = 0; value = value }

abbrev pub u32_avp : ℕ → ℕ → RawAvp
u32_avp code n = octets_avp code (big_bytes 4 n)

abbrev pub u64_avp : ℕ → ℕ → RawAvp
u64_avp code n = octets_avp code (big_bytes 8 n)

abbrev pub i32_avp : ℕ → ℤ → RawAvp
i32_avp code z = octets_avp code (big_bytes 4 (cast_unsigned w32 z))

abbrev pub i64_avp : ℕ → ℤ → RawAvp
i64_avp code z = octets_avp code (big_bytes 8 (cast_unsigned w64 z))

-- the octets of AVPs, one after the other
abbrev pub spelling_of : List RawAvp → List ℕ
spelling_of avps = flat_map written avps

abbrev pub group_avp : ℕ → List RawAvp → RawAvp
group_avp code members = octets_avp code (spelling_of members)
