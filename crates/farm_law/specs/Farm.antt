-- A farm between two steps, as far as requests and answers on their way go.
use Rattle.std.specs.Prelude.{ℕ, Bool, List, Option, if◌then◌else◌}
use Rattle.dia_base.specs.declared.number.ConnId.{ConnId}
use Rattle.dia_base.specs.declared.number.NodeNo.{NodeNo}
use Rattle.dia_message.specs.declared.message.Message.{Message}
use Rattle.dia_message.specs.Traffic.{Traffic}
use Rattle.cc_view.specs.declared.refusal.Refusal.{Refusal}
use Rattle.cc_book.specs.Taking.{Ledger}

-- A message on its way on a connection, from one node to the other: in flight, in the queue of a front, or with a
-- worker of it. A worker that is done holds its answer, from the front to the node that asked.
pub record Item : Type 0 where
  pub conn : ConnId
  pub from : NodeNo
  pub to : NodeNo
  pub message : Message

-- where a request came from that a relay has sent
pub record Asker : Type 0 where
  pub conn : ConnId
  pub node : NodeNo
  pub hop : ℕ

-- a request that a relay has sent on a connection and whose answer it awaits; no asker where that connection has ended
pub record PendingRow : Type 0 where
  pub relay : NodeNo
  pub conn : ConnId
  pub asker : Option Asker
  pub request : Message

-- a request that a node has refused, with the connection that it stood on
pub record Refused : Type 0 where
  pub node : NodeNo
  pub conn : ConnId
  pub request : Message
  pub refusal : Refusal

pub record Farm : Type 0 where
  pub items : List Item
  pub rows : List PendingRow
  -- Where connections have ended: each of the two nodes learns it by itself, and until it has, its end stands. One that is
  -- not made yet has not ended.
  pub has_ended : NodeNo → ConnId → Bool
  pub book : Ledger
  -- what nodes have refused so far
  pub refused : List Refused
  -- what clients have sent and received, each message with its connection
  pub sent : Traffic
  pub received : Traffic

-- the node that waits for the answer
abbrev pub waiting_node : Item → NodeNo
waiting_node item = if item.message.header.request then item.from else item.to

-- the node at the other end answers a message
abbrev pub reply_to : Item → Message → Item
reply_to item answer = record { conn = item.conn; from = item.to; to = item.from; message = answer }
