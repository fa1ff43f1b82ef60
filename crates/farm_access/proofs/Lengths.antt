-- Texts that write no address, or fewer bits than digits say.
use Rattle.std.proofs.Common.{◌≡◌, ℕ, ◌<◌, ◌≤◌, List, sym, subst, ◌∙◌, arith}
use Rattle.std.specs.Net.Grammar.{IsIpv4Text, IsIpv6Text, IsNumber}
use Rattle.std.specs.declared.net.ipv4_addr.Ipv4Addr.{Ipv4Addr}
use Rattle.std.specs.declared.net.ipv6_addr.Ipv6Addr.{Ipv6Addr}
use Rattle.std.specs.declared.net.ip_addr.IpAddr.{IpAddr}
use Rattle.std.specs.declared.net.ip_addr.IpAddr.TheVariants.{V4, V6}
use Rattle.farm_access.specs.Prefixes.{IsAddressText, WritesPart, width_of}
use Rattle.farm_access.specs.declared.prefix.Prefix.{Prefix}

one_number : (digits : List ℕ) (m n : ℕ) → IsNumber 10 digits m → IsNumber 10 digits n → m ≡ n
one_number digits m n one other = sym one.1 ∙ other.1

longer : (text : List ℕ) (address other : IpAddr) (m n : ℕ) → IsAddressText text address → width_of address < m → IsAddressText text other → n ≡ m
    → n ≤ width_of other → ⊥
longer text (V4 a) (V4 b) m n is long writes same short = omega (arith, long, same, short)
longer text (V4 a) (V6 b) m n is long writes same short = writes.1 a is
longer text (V6 a) (V4 b) m n is long writes same short = omega (arith, long, same, short)
longer text (V6 a) (V6 b) m n is long writes same short = omega (arith, long, same, short)

-- digits that say more bits than the address of the text has
pub too_long : (text digits : List ℕ) (address : IpAddr) (length : ℕ) → IsAddressText text address → IsNumber 10 digits length
    → width_of address < length → (prefix : Prefix) → ¬ (WritesPart text digits prefix)
too_long text digits address length is number long prefix writes =
    longer text address prefix.address length prefix.length is long writes.0 (one_number digits prefix.length length writes.1 number) writes.2

-- of one family
pub no_v4 : (octets text : List ℕ) → octets ≡ text → ((address : Ipv4Addr) → ¬ (IsIpv4Text octets address)) → (address : Ipv4Addr)
    → ¬ (IsIpv4Text text address)
no_v4 octets text same none address writes = none address (subst (λ (t : List ℕ). IsIpv4Text t address) (sym same) writes)

-- of neither family
pub neither : (octets text : List ℕ) → octets ≡ text → ((address : Ipv4Addr) → ¬ (IsIpv4Text text address))
    → ((address : Ipv6Addr) → ¬ (IsIpv6Text octets address)) → (address : IpAddr) → ¬ (IsAddressText text address)
neither octets text same no_v4 no_v6 (V4 a) writes = no_v4 a writes
neither octets text same no_v4 no_v6 (V6 a) writes = no_v6 a (subst (λ (t : List ℕ). IsIpv6Text t a) (sym same) writes.0)
