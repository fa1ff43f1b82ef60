-- One small change of a farm: each of its steps is none, one or several of these. What comes may stand anywhere among the others.
use Rattle.std.specs.Prelude.{◌≡◌, ◌<◌, ℕ, Bool, true, false, List, [], ◌∷◌, ◌++◌, count_by, length, Some, None, Ok}
use Rattle.dia_base.specs.declared.number.ConnId.{ConnId}
use Rattle.dia_base.specs.declared.number.NodeNo.{NodeNo}
use Rattle.dia_base.specs.declared.number.Moment.{Moment}
use Rattle.dia_avp.specs.declared.avp.RawAvp.{RawAvp}
use Rattle.dia_avp.specs.AvpList.{HasSpelling}
use Rattle.dia_avp.specs.AvpReading.{split_of}
use Rattle.dia_message.specs.declared.message.Message.{Message}
use Rattle.cc_view.specs.declared.refusal.Refusal.{Refusal}
use Rattle.cc_view.specs.declared.request.CcRequest.{CcRequest}
use Rattle.cc_view.specs.Answer.{refusal_of}
use Rattle.cc_view.specs.RequestView.{view_under}
use Rattle.cc_book.specs.declared.terms_change.TermsChange.{TermsChange}
use Rattle.cc_book.specs.AccountMachine.{kept_reply, terms_of}
use Rattle.cc_book.specs.Changing.{with_change}
use Rattle.cc_book.specs.History.{ended_sessions}
use Rattle.cc_book.specs.Taking.{with_take, with_sweep}
use Rattle.cc_book.specs.TermsChange.{fault_of_change}
use Rattle.front_core.specs.Answered.{IsBookAnswer}
use Rattle.relay_routes.specs.Routing.{record_of}
use Rattle.relay_hops.specs.PendingTable.{under, again}
use Rattle.relay_core.specs.Forwarding.{with_record}
use Rattle.farm_law.specs.Counts.{with_hop, row_in}
use Rattle.farm_law.specs.Farm.{Item, Asker, PendingRow, Farm, reply_to}
use Rattle.farm_law.specs.Lists.{Has, Without, Left}
use Rattle.farm_law.specs.Parties.{Parties}

-- ---- what a relay keeps

-- a request as a relay forwards it
abbrev pub forwarded : Parties → ℕ → Item → Message
forwarded p hop item = under hop (with_record (p.name_of item.from) item.message)

abbrev pub row_for : Parties → ConnId → ℕ → Item → PendingRow
row_for p conn hop item = record {
  relay = item.to;
  conn = conn;
  asker = Some (record { conn = item.conn; node = item.from; hop = item.message.header.hop });
  request = forwarded p hop item;
}

-- the same request, sent again on another connection
abbrev pub row_again : ConnId → ℕ → PendingRow → PendingRow
row_again conn hop row = record row { conn = conn; request = again hop row.request }

-- some rows have lost their askers
pub data Orphaned : List PendingRow → List PendingRow → Type 0 where
  none : Orphaned [] []
  as_it_was : {row : PendingRow} {old new : List PendingRow} → Orphaned old new → Orphaned (row ∷ old) (row ∷ new)
  orphan : {row : PendingRow} {old new : List PendingRow} → Orphaned old new → Orphaned (row ∷ old) (record row { asker = None } ∷ new)

-- ---- moves

pub data Move (p : Parties) : Farm → Farm → Type 0 where
  -- a client sends a message, to a node that is none
  sends : {f : Farm} {items : List Item} (conn : ConnId) (to : NodeNo) (message : Message) → p.is_client (p.client_on conn) ≡ true → p.is_client to ≡ false →
      Without (record { conn = conn; from = p.client_on conn; to = to; message = message }) items f.items →
      Move p f (record f { items = items; sent = f.sent ++ (conn, message) ∷ [] })
  -- a client receives a message
  receives : {f : Farm} {item : Item} {rest : List Item} → Without item f.items rest → p.is_client item.to ≡ true → p.is_client item.from ≡ false →
      item.to ≡ p.client_on item.conn → item.from ≡ p.server_on item.conn →
      Move p f (record f { items = rest; received = f.received ++ (item.conn, item.message) ∷ [] })
  -- messages are lost
  loses : {f : Farm} {rest : List Item} → Left (λ item. Unit {0}) f.items rest → Move p f (record f { items = rest })
  -- a message moves on without a change
  moves_on : {f : Farm} {item : Item} {rest items : List Item} → Without item f.items rest → Without item items rest → Move p f (record f { items = items })
  -- a front answers a request with what the book keeps
  answers : {f : Farm} {item : Item} {rest items : List Item} (answer : Message) →
      Without item f.items rest → item.message.header.request ≡ true → p.is_front item.to ≡ true →
      IsBookAnswer (p.front_site (p.name_of item.to)) f.book item.message answer → Without (reply_to item answer) items rest →
      Move p f (record f { items = items })
  -- the book takes what is read in a request
  takes : {f : Farm} {item : Item} (moment : Moment) (request : CcRequest) → Has item f.items →
      item.message.header.request ≡ true → view_under p.profile item.message ≡ Ok request →
      kept_reply f.book.terms f.book.history request ≡ None → length f.book.history < f.book.limit →
      Move p f (record f { book = with_take f.book moment request })
  -- the book ends sessions that are due (RFC 8506, section 13)
  sweeps : {f : Farm} (moment : Moment) → 0 < ended_sessions f.book.terms f.book.history moment → length f.book.history < f.book.limit →
      Move p f (record f { book = with_sweep f.book moment })
  -- the terms of the book change, where nothing is wrong with the change
  changes_terms : {f : Farm} (moment : Moment) (change : TermsChange) → fault_of_change (terms_of f.book.terms f.book.history) change ≡ None →
      length f.book.history < f.book.limit → Move p f (record f { book = with_change f.book moment change })
  -- a node refuses a request
  refuses : {f : Farm} {item : Item} {rest items : List Item} (refusal : Refusal) → Without item f.items rest → item.message.header.request ≡ true →
      Without (reply_to item (refusal_of (p.name_of item.to) p.realm item.message refusal)) items rest →
      Move p f (record f { items = items; refused = f.refused ++ record { node = item.to; conn = item.conn; request = item.message; refusal = refusal } ∷ [] })
  -- a relay forwards a request under an identifier that is not in use
  forwards : {f : Farm} {item : Item} {rest items : List Item} {rows : List PendingRow} (conn : ConnId) (peer : NodeNo) (hop : ℕ) (avps : List RawAvp) →
      Without item f.items rest → item.message.header.request ≡ true → split_of item.message.body ≡ Ok avps → HasSpelling (record_of (p.name_of item.from)) →
      p.is_relay item.to ≡ true → p.is_client item.to ≡ false → p.is_client peer ≡ false → count_by (row_in (with_hop conn item.to hop)) f.rows ≡ 0 →
      Without (record { conn = conn; from = item.to; to = peer; message = forwarded p hop item }) items rest → Without (row_for p conn hop item) rows f.rows →
      Move p f (record f { items = items; rows = rows })
  -- a relay, for which the connection stands, sends an answer back to the asker of its request
  returns : {f : Farm} {item : Item} {row : PendingRow} {rest items : List Item} {rows : List PendingRow} (asker : Asker) →
      Without item f.items rest → item.message.header.request ≡ false →
      p.is_client item.from ≡ false → p.is_relay item.to ≡ true → p.is_linked item.to item.from ≡ true → f.has_ended item.to item.conn ≡ false →
      Without row f.rows rows → row.conn ≡ item.conn → row.relay ≡ item.to → row.request.header.hop ≡ item.message.header.hop → row.asker ≡ Some asker →
      Without (record { conn = asker.conn; from = item.to; to = asker.node; message = under asker.hop item.message }) items rest →
      Move p f (record f { items = items; rows = rows })
  -- a relay gets an answer that nobody waits for any more
  forgets : {f : Farm} {item : Item} {row : PendingRow} {rest : List Item} {rows : List PendingRow} →
      Without item f.items rest → item.message.header.request ≡ false →
      p.is_client item.from ≡ false → f.has_ended item.to item.conn ≡ false →
      Without row f.rows rows → row.conn ≡ item.conn → row.relay ≡ item.to → row.request.header.hop ≡ item.message.header.hop →
      Move p f (record f { items = rest; rows = rows })
  -- the connections of some askers have ended
  orphans : {f : Farm} {rows : List PendingRow} → Orphaned f.rows rows → Move p f (record f { rows = rows })
  -- requests on connections that have ended for the relay are given up without an answer
  drops : {f : Farm} {rows : List PendingRow} → Left (λ row. f.has_ended row.relay row.conn ≡ true) f.rows rows → Move p f (record f { rows = rows })
  -- a request on a connection that has ended for the relay is sent again on another one
  sends_again : {f : Farm} {row : PendingRow} {left rows : List PendingRow} {items : List Item} (conn : ConnId) (peer : NodeNo) (hop : ℕ) →
      Without row f.rows left → f.has_ended row.relay row.conn ≡ true →
      p.is_client peer ≡ false → count_by (row_in (with_hop conn row.relay hop)) left ≡ 0 →
      Without (record { conn = conn; from = row.relay; to = peer; message = again hop row.request }) items f.items →
      Without (row_again conn hop row) rows left →
      Move p f (record f { items = items; rows = rows })
  -- a relay refuses a request on a connection that has ended for it
  gives_up : {f : Farm} {row : PendingRow} {rows : List PendingRow} {items : List Item} (asker : Asker) (refusal : Refusal) →
      Without row f.rows rows → f.has_ended row.relay row.conn ≡ true →
      row.asker ≡ Some asker → p.is_relay row.relay ≡ true →
      Without (record {
        conn = asker.conn;
        from = row.relay;
        to = asker.node;
        message = under asker.hop (refusal_of (p.name_of row.relay) p.realm row.request refusal);
      }) items f.items →
      Move p f (record f {
        items = items;
        rows = rows;
        refused = f.refused ++ record { node = row.relay; conn = row.conn; request = row.request; refusal = refusal } ∷ [];
      })
  -- connections end, for one node or for both; one that has ended for a node does not come back
  ends : {f : Farm} (has_ended : NodeNo → ConnId → Bool) →
      ((node : NodeNo) (conn : ConnId) → f.has_ended node conn ≡ true → has_ended node conn ≡ true) →
      Move p f (record f { has_ended = has_ended })

-- one after the other
pub data Moves (p : Parties) : Farm → Farm → Type 0 where
  done : {f : Farm} → Moves p f f
  next : {f g h : Farm} → Move p f g → Moves p g h → Moves p f h
