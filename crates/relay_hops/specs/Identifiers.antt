-- The identifiers that a relay gives (RFC 6733, section 3): they rise by one from a start, and those whose place a pending request has are passed over.
use Rattle.std.specs.Prelude.{◌≡◌, ℕ, zero, suc, ◌+◌, ◌-◌, ◌*◌, ◌%◌, ◌^◌, ◌<◌, ◌==◌, Bool, true, false, nat_le, bit_and, List, length, Option, None, slice_index_or, if◌then◌else◌}
use Rattle.std.specs.List.{list_any}
use Rattle.relay_hops.specs.declared.row.Row.{Row}
use Rattle.relay_hops.specs.PendingTable.{PendingTable, hop_of}

-- the identifier of a number: the highest bit is set, and the others count from 0 to 2^31 - 1 and begin again
abbrev pub identifier_of : ℕ → ℕ
identifier_of number = 2 ^ 31 + number % 2 ^ 31

-- ---- places

-- the least power of two, up to so many doublings of 1, that is this or more
abbrev pub doubled : ℕ → ℕ → ℕ
doubled zero wanted = 1
doubled (suc times) wanted = let size = doubled times wanted in if nat_le wanted size then size else 2 * size

-- where there are so many places, a mask leaves the place of each identifier
abbrev pub IsMasked : ℕ → Type 0
IsMasked size = (hop : ℕ) → bit_and hop (size - 1) ≡ hop % size

-- how many places a table of this limit has: the least power of two that is twice the limit or more
unfoldable pub places_for : ℕ → ℕ
places_for limit = doubled 31 (2 * limit)

-- the place of an identifier: its low bits, where there are so many places
abbrev pub place_of : ℕ → ℕ → ℕ
place_of size hop = hop % size

-- what an index has at the place of an identifier
abbrev pub key_in : List (Option ℕ) → ℕ → Option ℕ
key_in keys hop = slice_index_or keys (place_of (length keys) hop) None

-- a row has the place of the identifier
abbrev pub is_taken : ℕ → List Row → ℕ → Bool
is_taken size rows hop = list_any (λ row. place_of size (hop_of row) == place_of size hop) rows

-- ---- what is given

-- From this count on the identifier is the first whose place no row has, and the count goes on behind it.
pub record IsGivenFrom (size : ℕ) (rows : List Row) (from hop next : ℕ) : Type 0 where
  -- how many are passed over
  pub passed : ℕ
  pub taken : (k : ℕ) → k < passed → is_taken size rows (identifier_of (from + k)) ≡ true
  pub free : is_taken size rows hop ≡ false
  pub hop_is : hop ≡ identifier_of (from + passed)
  pub next_is : next ≡ (from + passed + 1) % 2 ^ 31

-- the identifier that a table gives, and its count then
abbrev pub IsGiven : PendingTable → ℕ → ℕ → Type 0
IsGiven pending hop next = IsGivenFrom (places_for pending.limit) pending.rows pending.next hop next
