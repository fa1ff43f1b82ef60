-- What every run of a farm keeps: who has asked what, and that nobody is answered more often.
use Rattle.std.specs.Prelude.{◌≡◌, ◌⊎◌, ◌≤◌, ◌+◌, ℕ, Bool, true, false, List, [], count_by, length, Option, Some, None, Ok}
use Rattle.dia_base.specs.declared.number.ConnId.{ConnId}
use Rattle.dia_base.specs.declared.number.NodeNo.{NodeNo}
use Rattle.dia_avp.specs.declared.avp.RawAvp.{RawAvp}
use Rattle.dia_avp.specs.AvpReading.{split_of}
use Rattle.dia_message.specs.declared.message.Message.{Message}
use Rattle.dia_message.specs.Traffic.{Traffic}
use Rattle.cc_view.specs.RequestView.{view_under}
use Rattle.cc_book.specs.declared.entry.Entry.{Entry}
use Rattle.cc_book.specs.declared.entry.Entry.TheVariants.{Take, Sweep, ChangeTerms}
use Rattle.cc_book.specs.History.{IsLegal}
use Rattle.cc_book.specs.Taking.{Ledger}
use Rattle.front_core.specs.Counts.{requests_with, answers_with}
use Rattle.relay_core.specs.Forwarding.{Descends}
use Rattle.farm_law.specs.Answers.{Answers}
use Rattle.farm_law.specs.Counts.{with_hop, with_both, row_in, open_in}
use Rattle.farm_law.specs.Farm.{Item, Asker, PendingRow, Refused, Farm, waiting_node}
use Rattle.farm_law.specs.Lists.{Has}
use Rattle.farm_law.specs.Parties.{Parties}

-- ---- who has asked what

-- The node has asked something on the connection, such that P: a client has sent it, and a relay awaits its answer
-- unless the connection has ended for it; whether it has for the other node is not asked.
pub record Asks (p : Parties) (has_ended : NodeNo → ConnId → Bool) (rows : List PendingRow) (sent : Traffic) (conn : ConnId) (node : NodeNo)
    (P : Message → Type 0) : Type 0 where
  pub client : p.is_client node ≡ true → (message : Message) × Has (conn, message) sent × (message.header.request ≡ true) × P message
  pub relay : p.is_client node ≡ false → has_ended node conn ≡ false →
      (row : PendingRow) × Has row rows × (row.conn ≡ conn) × (row.relay ≡ node) × P row.request

-- a message that a node tells is what was asked, or answers it
pub record Fits (p : Parties) (book : Ledger) (refused : List Refused) (node : NodeNo) (conn : ConnId) (message asked : Message) : Type 0 where
  pub request : message.header.request ≡ true → message ≡ asked
  pub answer : message.header.request ≡ false → Answers p book refused node conn asked message

-- what a relay has sent descends from what its asker asked, which is a list of AVPs
pub record Stems (asker : Asker) (request asked : Message) : Type 0 where
  pub hop : asked.header.hop ≡ asker.hop
  pub avps : List RawAvp
  pub splits : split_of asked.body ≡ Ok avps
  pub descends : Descends asked request

abbrev pub IsAsked : Parties → (NodeNo → ConnId → Bool) → List PendingRow → Traffic → Message → Option Asker → Type 0
IsAsked p has_ended rows sent request None = Unit {0}
IsAsked p has_ended rows sent request (Some asker) = Asks p has_ended rows sent asker.conn asker.node (Stems asker request)

-- a message on its way was asked, or answers what was; answers that a client sends stand for nothing
abbrev pub IsSound : Parties → (NodeNo → ConnId → Bool) → List PendingRow → Ledger → List Refused → Traffic → Item → Type 0
IsSound p has_ended rows book refused sent item =
    (item.message.header.request ≡ true) ⊎ (p.is_client item.from ≡ false) →
    Asks p has_ended rows sent item.conn (waiting_node item) (Fits p book refused item.from item.conn item.message)

-- a client has received the answer to a request that was sent on the connection
pub record IsOwed (p : Parties) (book : Ledger) (refused : List Refused) (sent : Traffic) (conn : ConnId) (answer : Message) : Type 0 where
  pub flag : answer.header.request ≡ false
  pub message : Message
  pub was_sent : Has (conn, message) sent
  pub request : message.header.request ≡ true
  pub answers : Answers p book refused (p.server_on conn) conn message answer

-- ---- where requests come from

-- a client has sent a request that is a list of AVPs, and the message descends from it
pub record HasDescended (sent : Traffic) (message : Message) : Type 0 where
  pub conn : ConnId
  pub first : Message
  pub was_sent : Has (conn, first) sent
  pub request : first.header.request ≡ true
  pub avps : List RawAvp
  pub splits : split_of first.body ≡ Ok avps
  pub descends : Descends first message

-- a client has sent the request, or one that it descends from
pub data ComesFrom (sent : Traffic) (message : Message) : Type 0 where
  as_sent : (conn : ConnId) → Has (conn, message) sent → ComesFrom sent message
  on_its_way : HasDescended sent message → ComesFrom sent message

-- An entry takes what is read in a request that a client sent. A sweep takes nothing of any message, nor does a change of the terms.
abbrev pub IsTaken : Parties → Traffic → Entry → Type 0
IsTaken p sent (Take moment request) =
    (conn : ConnId) × (message : Message) × Has (conn, message) sent × (message.header.request ≡ true) × (view_under p.profile message ≡ Ok request)
IsTaken p sent (Sweep moment) = Unit {0}
IsTaken p sent (ChangeTerms moment change) = Unit {0}

-- ---- the whole

pub record Keeps (p : Parties) (has_ended : NodeNo → ConnId → Bool) (items : List Item) (rows : List PendingRow) (book : Ledger)
    (refused : List Refused) (sent received : Traffic) : Type 0 where
  -- no more open or answered than sent
  pub clients : (conn : ConnId) (hop end : ℕ) → p.is_client (p.client_on conn) ≡ true →
      open_in p (with_both conn (p.client_on conn) hop end) items rows + answers_with received conn hop end ≤ requests_with sent conn hop end
  -- at most one place goes on from a request that a relay has sent, and none without one
  pub relays : (conn : ConnId) (node : NodeNo) (hop : ℕ) → p.is_client node ≡ false → has_ended node conn ≡ false →
      open_in p (with_hop conn node hop) items rows ≤ count_by (row_in (with_hop conn node hop)) rows
  -- no identifier is in use twice
  pub single : (conn : ConnId) (node : NodeNo) (hop : ℕ) → count_by (row_in (with_hop conn node hop)) rows ≤ 1
  -- what stands there is what was asked, or answers it
  pub sound : (item : Item) → Has item items → IsSound p has_ended rows book refused sent item
  pub asked : (row : PendingRow) → Has row rows → IsAsked p has_ended rows sent row.request row.asker
  pub owed : (conn : ConnId) (answer : Message) → Has (conn, answer) received → IsOwed p book refused sent conn answer
  -- requests go to no client, and relays hold requests
  pub to_servers : (item : Item) → Has item items → item.message.header.request ≡ true → p.is_client item.to ≡ false
  pub askers : (row : PendingRow) → Has row rows → p.is_client row.relay ≡ false
  pub requests : (row : PendingRow) → Has row rows → row.request.header.request ≡ true
  -- each request comes from one that a client has sent, and what a relay has sent descends from it
  pub items_come : (item : Item) → Has item items → item.message.header.request ≡ true → ComesFrom sent item.message
  pub rows_come : (row : PendingRow) → Has row rows → HasDescended sent row.request
  pub taken : (entry : Entry) → Has entry book.history → IsTaken p sent entry
  pub legal : IsLegal book.terms book.history
  pub within : length book.history ≤ book.limit

abbrev pub IsKept : Parties → Farm → Type 0
IsKept p f = Keeps p f.has_ended f.items f.rows f.book f.refused f.sent f.received

-- a farm in which nothing has happened
abbrev pub new_farm : Ledger → Farm
new_farm book = record { items = []; rows = []; has_ended = λ node conn. false; book = book; refused = []; sent = []; received = [] }
