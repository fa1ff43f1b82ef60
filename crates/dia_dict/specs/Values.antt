-- What values the kinds have, and how they stand as octets (RFC 6733, sections 4.2 to 4.4).
use Rattle.std.specs.Prelude.{ℕ, ◌<◌, ◌^◌, List, length, Bool, true, false, ◌&&◌, ◌==◌, nat_le, if◌then◌else◌, Option, Some, None, FitsSigned, ⊤}
use Rattle.std.specs.Int.{cast_unsigned, w32, w64}
use Rattle.std.specs.Str.{is_utf8}
use Rattle.byteorder.specs.Endian.{big_number, big_bytes, twos_complement}
use Rattle.dia_base.specs.Codes.{cc_request_type, requested_action}
use Rattle.dia_dict.specs.declared.row.Kind.{Kind}
use Rattle.dia_dict.specs.declared.row.Kind.TheVariants as kind
use Rattle.dia_dict.specs.declared.value.Typed.{Typed}
use Rattle.dia_dict.specs.declared.value.Typed.TheVariants as value
use Rattle.dia_dict.specs.declared.fault.DictFault.{DictFault}
use Rattle.dia_dict.specs.declared.fault.DictFault.TheVariants.{BadLength, BadUtf8, BadEnumerated}

-- an address family in two octets, and the address: 4 octets of family 1, IPv4, and 16 of family 2, IPv6
abbrev pub is_address : List ℕ → Bool
is_address octets =
    nat_le 2 (length octets)
    && (if big_number 2 octets == 1 then length octets == 6 else if big_number 2 octets == 2 then length octets == 18 else true)

-- whether a value of the kind may have the length of the octets
abbrev pub has_length : Kind → List ℕ → Bool
has_length kind.Unsigned32 octets = length octets == 4
has_length kind.Unsigned64 octets = length octets == 8
has_length kind.Integer32 octets = length octets == 4
has_length kind.Integer64 octets = length octets == 8
has_length kind.Time octets = length octets == 4
has_length kind.Enumerated octets = length octets == 4
has_length kind.Utf8String octets = true
has_length kind.DiameterIdentity octets = true
has_length kind.OctetString octets = true
has_length kind.Address octets = is_address octets
has_length kind.Grouped octets = true

-- the enumerations that have a range: CC-Request-Type and Requested-Action (RFC 8506, sections 8.3 and 8.41)
abbrev pub in_range : ℕ → ℕ → Bool
in_range code number =
    if code == cc_request_type then nat_le 1 number && nat_le number 4 else if code == requested_action then nat_le number 3 else true

-- why octets of a length that the kind has are still no value of it
abbrev pub content_fault : Kind → ℕ → List ℕ → Option DictFault
content_fault kind.Utf8String code octets = if is_utf8 octets then None else Some (BadUtf8 code)
content_fault kind.Enumerated code octets = if in_range code (big_number 4 octets) then None else Some (BadEnumerated code)
content_fault _ code octets = None

-- why octets are no value of the kind in an AVP of this code, if they are not
abbrev pub value_fault : Kind → ℕ → List ℕ → Option DictFault
value_fault kind code octets = if has_length kind octets then content_fault kind code octets else Some (BadLength code)

-- the value of the kind that octets are, where they are one
abbrev pub value_of : Kind → List ℕ → Typed
value_of kind.Unsigned32 octets = value.Unsigned32 (big_number 4 octets)
value_of kind.Unsigned64 octets = value.Unsigned64 (big_number 8 octets)
value_of kind.Integer32 octets = value.Integer32 (twos_complement 4 (big_number 4 octets))
value_of kind.Integer64 octets = value.Integer64 (twos_complement 8 (big_number 8 octets))
value_of kind.Time octets = value.Time (big_number 4 octets)
value_of kind.Enumerated octets = value.Enumerated (twos_complement 4 (big_number 4 octets))
value_of kind.Utf8String octets = value.Utf8String octets
value_of kind.DiameterIdentity octets = value.DiameterIdentity octets
value_of kind.OctetString octets = value.OctetString octets
value_of kind.Address octets = value.Address octets
value_of kind.Grouped octets = value.Grouped octets

-- the kind of a value
abbrev pub kind_in : Typed → Kind
kind_in (value.Unsigned32 n) = kind.Unsigned32
kind_in (value.Unsigned64 n) = kind.Unsigned64
kind_in (value.Integer32 z) = kind.Integer32
kind_in (value.Integer64 z) = kind.Integer64
kind_in (value.Time n) = kind.Time
kind_in (value.Enumerated z) = kind.Enumerated
kind_in (value.Utf8String text) = kind.Utf8String
kind_in (value.DiameterIdentity octets) = kind.DiameterIdentity
kind_in (value.OctetString octets) = kind.OctetString
kind_in (value.Address octets) = kind.Address
kind_in (value.Grouped octets) = kind.Grouped

-- the octets of a value; a signed number stands in two's complement
abbrev pub octets_of : Typed → List ℕ
octets_of (value.Unsigned32 n) = big_bytes 4 n
octets_of (value.Unsigned64 n) = big_bytes 8 n
octets_of (value.Integer32 z) = big_bytes 4 (cast_unsigned w32 z)
octets_of (value.Integer64 z) = big_bytes 8 (cast_unsigned w64 z)
octets_of (value.Time n) = big_bytes 4 n
octets_of (value.Enumerated z) = big_bytes 4 (cast_unsigned w32 z)
octets_of (value.Utf8String text) = text
octets_of (value.DiameterIdentity octets) = octets
octets_of (value.OctetString octets) = octets
octets_of (value.Address octets) = octets
octets_of (value.Grouped octets) = octets

-- what is no number is octets, which are kept in memory
abbrev pub TakesMemory : Typed → Type 0
TakesMemory (value.Unsigned32 n) = ⊥
TakesMemory (value.Unsigned64 n) = ⊥
TakesMemory (value.Integer32 z) = ⊥
TakesMemory (value.Integer64 z) = ⊥
TakesMemory (value.Time n) = ⊥
TakesMemory (value.Enumerated z) = ⊥
TakesMemory _ = ⊤

-- whether two kinds are the same
abbrev pub same_kind : Kind → Kind → Bool
same_kind kind.Unsigned32 kind.Unsigned32 = true
same_kind kind.Unsigned64 kind.Unsigned64 = true
same_kind kind.Integer32 kind.Integer32 = true
same_kind kind.Integer64 kind.Integer64 = true
same_kind kind.Time kind.Time = true
same_kind kind.Enumerated kind.Enumerated = true
same_kind kind.Utf8String kind.Utf8String = true
same_kind kind.DiameterIdentity kind.DiameterIdentity = true
same_kind kind.OctetString kind.OctetString = true
same_kind kind.Address kind.Address = true
same_kind kind.Grouped kind.Grouped = true
same_kind _ _ = false

-- the numbers that a value may have, by its kind
abbrev pub InRange : Typed → Type 0
InRange (value.Unsigned32 n) = n < 2 ^ 32
InRange (value.Unsigned64 n) = n < 2 ^ 64
InRange (value.Integer32 z) = FitsSigned w32 z
InRange (value.Integer64 z) = FitsSigned w64 z
InRange (value.Time n) = n < 2 ^ 32
InRange (value.Enumerated z) = FitsSigned w32 z
InRange _ = Unit {0}
