-- The header of a message (RFC 6733, section 3): 20 octets. A number stands in network order, the
-- highest octet first. The reserved flag bits are no part of a header: read as anything, written 0.
use Rattle.std.specs.Prelude.{ℕ, ◌+◌, ◌<◌, ◌^◌, List, ◌∷◌, ◌++◌, drop, bit_and, not, slice_index, slice_set, Bool, ◌==◌, if◌then◌else◌}
use Rattle.byteorder.specs.Endian.{big_number, big_bytes}
use Rattle.dia_message.specs.declared.header.Header.{Header}
use Rattle.dia_message.specs.declared.header.ReadHeader.{ReadHeader}

-- ---- where the fields stand

abbrev pub version_in : List ℕ → ℕ
version_in octets = slice_index octets 0

-- the Message Length, which counts header and body
abbrev pub length_in : List ℕ → ℕ
length_in octets = big_number 3 (drop 1 octets)

abbrev pub flags_in : List ℕ → ℕ
flags_in octets = slice_index octets 4

abbrev pub command_in : List ℕ → ℕ
command_in octets = big_number 3 (drop 5 octets)

abbrev pub application_in : List ℕ → ℕ
application_in octets = big_number 4 (drop 8 octets)

abbrev pub hop_in : List ℕ → ℕ
hop_in octets = big_number 4 (drop 12 octets)

abbrev pub end_in : List ℕ → ℕ
end_in octets = big_number 4 (drop 16 octets)

-- whether flags have the one with this value: R 128, P 64, E 32, T 16
abbrev pub has_flag : ℕ → ℕ → Bool
has_flag value flags = not (bit_and flags value == 0)

-- ---- the header that octets spell

abbrev pub header_in : List ℕ → Header
header_in octets = record {
  request = has_flag 128 (flags_in octets);
  proxiable = has_flag 64 (flags_in octets);
  error = has_flag 32 (flags_in octets);
  resent = has_flag 16 (flags_in octets);
  command = command_in octets;
  application = application_in octets;
  hop = hop_in octets;
  «end» = end_in octets;
}

abbrev pub read_in : List ℕ → ReadHeader
read_in octets = record { header = header_in octets; version = version_in octets; length = length_in octets }

-- ---- the octets that a header is written as

abbrev pub flag_of : ℕ → Bool → ℕ
flag_of value set = if set then value else 0

abbrev pub flags_of : Header → ℕ
flags_of header = flag_of 128 header.request + flag_of 64 header.proxiable + flag_of 32 header.error + flag_of 16 header.resent

-- Of the command and of the length the low 24 bits are written, of the other numbers 32.
abbrev pub header_octets : Header → ℕ → List ℕ
header_octets header length =
    (1 ∷ big_bytes 3 length) ++ (flags_of header ∷ big_bytes 3 header.command) ++ big_bytes 4 header.application
    ++ big_bytes 4 header.hop ++ big_bytes 4 header.«end»

-- what a header is whose written octets are read back
pub record HasOctets (header : Header) : Type 0 where
  pub command : header.command < 2 ^ 24
  pub application : header.application < 2 ^ 32
  pub hop : header.hop < 2 ^ 32
  pub «end» : header.«end» < 2 ^ 32

-- the same octets with the four reserved flag bits 0: 240 is R, P, E and T together
abbrev pub without_reserved : List ℕ → List ℕ
without_reserved octets = slice_set octets 4 (bit_and (flags_in octets) 240)
