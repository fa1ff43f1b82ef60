-- Where the rows stand: in a slab, each under a key, and an index that has the key of a row at the place of its identifier.
use Rattle.std.specs.Prelude.{◌≡◌, ℕ, ◌≤◌, ◌<◌, ◌^◌, List, filter_map, length, count_by, Option, Some, None, is_some, slice_index_or, if◌then◌else◌}
use Rattle.slab.specs.Slab.{get, slab_len}
use Rattle.dia_base.specs.declared.number.ConnId.{ConnId}
use Rattle.relay_hops.specs.declared.row.Row.{Row}
use Rattle.relay_hops.specs.declared.index.Index.{Index}
use Rattle.relay_hops.specs.declared.places.Places.{Places}
use Rattle.relay_hops.specs.PendingTable.{hop_of, has_key}
use Rattle.relay_hops.specs.Identifiers.{place_of, places_for, key_in}

-- the rows in these slots, by rising key
abbrev pub rows_at : List (Option Row) → List Row
rows_at slots = filter_map (λ slot. slot) slots

abbrev pub rows_of : Places → List Row
rows_of p = rows_at p.slab.slots

-- the key at the place of an identifier
abbrev pub key_at : Index → ℕ → Option ℕ
key_at index hop = key_in index.keys.items hop

abbrev pub if_key : ConnId → ℕ → Option Row → Option Row
if_key conn hop None = None
if_key conn hop (Some row) = if has_key conn hop row then Some row else None

-- the row under a key of the slab, if it was sent on the connection under the identifier
abbrev pub row_under : Places → ConnId → ℕ → Option ℕ → Option Row
row_under p conn hop None = None
row_under p conn hop (Some key) = if_key conn hop (get p.slab key)

abbrev pub row_at : Places → ConnId → ℕ → Option Row
row_at p conn hop = row_under p conn hop (key_at p.index hop)

-- the row whose key an index has at a place
pub record IsFilled (slots : List (Option Row)) (size at key : ℕ) : Type 0 where
  pub row : Row
  pub there : slice_index_or slots key None ≡ Some row
  pub place : place_of size (hop_of row) ≡ at

-- The index has the key of each row at the place of its identifier, and nothing else.
pub record AreIndexed (slots : List (Option Row)) (keys : List (Option ℕ)) : Type 0 where
  pub indexed : (key : ℕ) (row : Row) → slice_index_or slots key None ≡ Some row → key_in keys (hop_of row) ≡ Some key
  pub filled : (at key : ℕ) → slice_index_or keys at None ≡ Some key → IsFilled slots (length keys) at key
  pub many : count_by is_some keys ≡ count_by is_some slots

abbrev pub IsIndexed : Places → Type 0
IsIndexed p = AreIndexed p.slab.slots p.index.keys.items

-- A table of this limit, with this count, has its rows here.
pub record IsTable (limit next : ℕ) (p : Places) : Type 0 where
  pub within : slab_len p.slab ≤ limit
  pub capacity : limit ≤ p.slab.capacity
  pub size : length p.index.keys.items ≡ places_for limit
  -- there is always a place that no row has
  pub room : limit < places_for limit
  pub numbered : next < 2 ^ 31
  pub in_place : IsIndexed p
