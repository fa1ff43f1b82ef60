-- Prefixes of addresses: which addresses they contain, and which texts write them.
use Rattle.std.specs.Prelude.{◌≡◌, ◌==◌, ◌≤◌, ◌-◌, ◌/◌, ◌^◌, ℕ, Bool, true, false, List, length, nat_lt}
use Rattle.std.specs.List.{after_first, before_first, position_or_len}
use Rattle.std.specs.Net.Addr.{ipv4_bits, ipv6_bits}
use Rattle.std.specs.Net.Grammar.{IsIpv4Text, IsIpv6Text, IsNumber}
use Rattle.std.specs.declared.net.ipv4_addr.Ipv4Addr.{Ipv4Addr}
use Rattle.std.specs.declared.net.ip_addr.IpAddr.{IpAddr}
use Rattle.std.specs.declared.net.ip_addr.IpAddr.TheVariants.{V4, V6}
use Rattle.farm_access.specs.declared.prefix.Prefix.{Prefix}

-- ---- which addresses (RFC 4632, section 3.1; RFC 4291, section 2.3)

-- two numbers of so many bits begin with the same ones: all that is behind the first `length` is cut off
abbrev pub begin_alike : ℕ → ℕ → ℕ → ℕ → Bool
begin_alike width length a b = (a / 2 ^ (width - length)) == (b / 2 ^ (width - length))

abbrev pub begin_alike_as : ℕ → IpAddr → IpAddr → Bool
begin_alike_as length (V4 a) (V4 b) = begin_alike 32 length (ipv4_bits a) (ipv4_bits b)
begin_alike_as length (V6 a) (V6 b) = begin_alike 128 length (ipv6_bits a) (ipv6_bits b)
begin_alike_as length (V4 a) (V6 b) = false
begin_alike_as length (V6 a) (V4 b) = false

abbrev pub contains : Prefix → IpAddr → Bool
contains prefix address = begin_alike_as prefix.length prefix.address address

-- ---- as texts

abbrev pub width_of : IpAddr → ℕ
width_of (V4 a) = 32
width_of (V6 a) = 128

-- the text writes the address (no text writes one of each family)
abbrev pub IsAddressText : List ℕ → IpAddr → Type 0
IsAddressText text (V4 a) = IsIpv4Text text a
IsAddressText text (V6 a) = IsIpv6Text text a × ((other : Ipv4Addr) → ¬ (IsIpv4Text text other))

-- an address alone: all of its bits
abbrev pub WritesWhole : List ℕ → Prefix → Type 0
WritesWhole text prefix = IsAddressText text prefix.address × (prefix.length ≡ width_of prefix.address)

-- an address, and how many of its bits: no more than it has
abbrev pub WritesPart : List ℕ → List ℕ → Prefix → Type 0
WritesPart text digits prefix = IsAddressText text prefix.address × IsNumber 10 digits prefix.length × (prefix.length ≤ width_of prefix.address)

abbrev pub is_slash : ℕ → Bool
is_slash octet = octet == 47

abbrev pub WritesBy : Bool → List ℕ → Prefix → Type 0
WritesBy true text prefix = WritesPart (before_first is_slash text) (after_first is_slash text) prefix
WritesBy false text prefix = WritesWhole text prefix

-- the text writes the prefix: what stands behind its first slash, if it has one, is the number of bits
abbrev pub IsPrefixText : List ℕ → Prefix → Type 0
IsPrefixText text prefix = WritesBy (nat_lt (position_or_len is_slash text) (length text)) text prefix
