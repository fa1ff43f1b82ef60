-- How many requests of a connection, a node and identifiers stand where.
use Rattle.std.specs.Prelude.{ℕ, ◌+◌, Bool, false, not, ◌&&◌, ◌||◌, ◌==◌, count_by, List, Option, Some, None}
use Rattle.dia_base.specs.declared.number.ConnId.{ConnId}
use Rattle.dia_base.specs.declared.number.NodeNo.{NodeNo}
use Rattle.farm_law.specs.Farm.{Item, Asker, PendingRow, waiting_node}
use Rattle.farm_law.specs.Parties.{Parties}

-- a test of connection, waiting node, Hop-by-Hop and End-to-End Identifier
abbrev pub Class : Type 0
Class = ConnId → NodeNo → ℕ → ℕ → Bool

abbrev pub with_hop : ConnId → NodeNo → ℕ → Class
with_hop conn node hop = λ c n h e. c.0 == conn.0 && n.0 == node.0 && h == hop

abbrev pub with_both : ConnId → NodeNo → ℕ → ℕ → Class
with_both conn node hop end = λ c n h e. c.0 == conn.0 && n.0 == node.0 && h == hop && e == end

-- answers that a client sends stand for nothing
abbrev pub item_in : Parties → Class → Item → Bool
item_in p class item = (item.message.header.request || not (p.is_client item.from)) && class item.conn (waiting_node item)
    item.message.header.hop item.message.header.end

-- what a relay holds for an asker
abbrev pub asker_in : Class → Option Asker → ℕ → Bool
asker_in class None end = false
asker_in class (Some asker) end = class asker.conn asker.node asker.hop end

abbrev pub held_in : Class → PendingRow → Bool
held_in class row = asker_in class row.asker row.request.header.end

-- what a relay has sent
abbrev pub row_in : Class → PendingRow → Bool
row_in class row = class row.conn row.relay row.request.header.hop row.request.header.end

-- in flight, in a queue, with a worker, or held by a relay
abbrev pub open_in : Parties → Class → List Item → List PendingRow → ℕ
open_in p class items rows = count_by (item_in p class) items + count_by (held_in class) rows
