-- Pending requests (RFC 6733, sections 3 and 6.2): a finite map from connection and Hop-by-Hop Identifier to what is kept of a request. It stands as a list of rows, of which the order says nothing.
use Rattle.std.specs.Prelude.{◌≡◌, ℕ, ◌≤◌, ◌==◌, ◌&&◌, Bool, true, List, ◌∷◌, ◌++◌, map, filter, find, count_by, length, nat_le, Option, Some, None, option_map, is_some, if◌then◌else◌}
use Rattle.std.specs.List.{list_any}
use Rattle.std.specs.List.Sorted.{IsStrictlySortedBy}
use Rattle.std.specs.Ordering.{nat_cmp}
use Rattle.dia_base.specs.declared.number.ConnId.{ConnId}
use Rattle.dia_message.specs.declared.message.Message.{Message}
use Rattle.relay_hops.specs.declared.row.Origin.{Origin}
use Rattle.relay_hops.specs.declared.row.Held.{Held}
use Rattle.relay_hops.specs.declared.row.Row.{Row}

-- the pending requests, how many there may be, and the count from which the next identifier is given
pub record PendingTable : Type 0 where
  pub limit : ℕ
  pub rows : List Row
  pub next : ℕ

-- ---- keys

abbrev pub hop_of : Row → ℕ
hop_of row = row.held.request.header.hop

abbrev pub is_sent_on : ConnId → Row → Bool
is_sent_on conn row = row.conn.0 == conn.0

abbrev pub has_key : ConnId → ℕ → Row → Bool
has_key conn hop row = is_sent_on conn row && (hop_of row == hop)

-- each key has one row at most
pub record IsMap (rows : List Row) : Type 0 where
  pub single : (conn : ConnId) (hop : ℕ) → count_by (has_key conn hop) rows ≤ 1

-- what is kept under a key
abbrev pub held_at : List Row → ConnId → ℕ → Option Held
held_at rows conn hop = option_map (λ row. row.held) (find (has_key conn hop) rows)

-- the identifiers in use on a connection
abbrev pub hops_on : List Row → ConnId → List ℕ
hops_on rows conn = map hop_of (filter (is_sent_on conn) rows)

-- These are the identifiers in use on a connection, the least first: something is held under each of
-- them and under no other, and they rise.
pub record AreInUse (rows : List Row) (conn : ConnId) (hops : List ℕ) : Type 0 where
  pub used : (hop : ℕ) → is_some (held_at rows conn hop) ≡ list_any (λ h. h == hop) hops
  pub rising : IsStrictlySortedBy nat_cmp hops

-- as many requests are pending as there may be
abbrev pub is_full : PendingTable → Bool
is_full pending = nat_le pending.limit (length pending.rows)

-- ---- one row more or less

-- The rows are the others, with this one among them.
pub record IsWith (row : Row) (others rows : List Row) : Type 0 where
  pub before : List Row
  pub after : List Row
  pub without : others ≡ before ++ after
  pub whole : rows ≡ before ++ row ∷ after

-- The new rows are the old ones, with one row in place of another: the rest is the same.
pub record IsMoved (row other : Row) (old new : List Row) : Type 0 where
  pub rest : List Row
  pub was : IsWith row rest old
  pub is : IsWith other rest new

-- ---- how a row changes

-- a request as it is sent under an identifier
abbrev pub under : ℕ → Message → Message
under hop request = record { header = record request.header { hop = hop }; body = request.body }

-- a request as it is sent again: with T set (5.5.4)
abbrev pub again : ℕ → Message → Message
again hop request = record { header = record request.header { hop = hop; resent = true }; body = request.body }

abbrev pub resent : ConnId → ℕ → Row → Row
resent conn hop row = record { conn = conn; held = record { origin = row.held.origin; request = again hop row.held.request } }

abbrev pub but_from : ConnId → Option Origin → Option Origin
but_from ended None = None
but_from ended (Some origin) = if origin.conn.0 == ended.0 then None else Some origin

-- what is kept of a request that came on a connection that has ended, and its row
abbrev pub without_origin : ConnId → Held → Held
without_origin ended held = record { origin = but_from ended held.origin; request = held.request }

abbrev pub orphaned : ConnId → Row → Row
orphaned ended row = record { conn = row.conn; held = without_origin ended row.held }
