-- Which identifiers a relay gives to the requests that it sends (RFC 6733, section 3).
use Rattle.std.specs.Prelude.{◌≡◌, ℕ, ◌^◌, ◌<◌, ◌≤◌, ◌==◌, true, Bool, List, [], ◌∷◌, ◌++◌, length, if◌then◌else◌}
use Rattle.std.specs.List.{list_any}
use Rattle.dia_base.specs.declared.number.ConnId.{ConnId}
use Rattle.dia_message.specs.declared.message.Message.{Message}
use Rattle.dia_message.specs.Traffic.{Traffic}
use Rattle.relay_hops.specs.declared.row.Row.{Row}
use Rattle.relay_hops.specs.PendingTable.{PendingTable, hop_of, IsWith}
use Rattle.relay_hops.specs.Identifiers.{IsGiven}
use Rattle.relay_core.specs.declared.run.RelayEvent.{RelayEvent}
use Rattle.relay_core.specs.declared.run.RelayEvent.TheVariants.{Up, Received, Lost, Restart}
use Rattle.relay_core.specs.RelayRun.{RelayStep}

-- ---- at one event

-- the identifiers of the requests among these messages
abbrev pub request_hops : Traffic → List ℕ
request_hops [] = []
request_hops (item ∷ items) = if item.1.header.request then item.1.header.hop ∷ request_hops items else request_hops items

-- a pending request has the identifier
abbrev pub has_hop : List Row → ℕ → Bool
has_hop rows hop = list_any (λ row. hop_of row == hop) rows

-- No identifier is given: what is pending then has identifiers that were in use before.
pub record GivesNone (old new : PendingTable) : Type 0 where
  pub next : new.next ≡ old.next
  pub limit : new.limit ≡ old.limit
  pub kept : (hop : ℕ) → has_hop new.rows hop ≡ true → has_hop old.rows hop ≡ true

-- Where requests are sent again, each keeps its identifier.
pub record SendsAgain (old : PendingTable) (sent : Traffic) (new : PendingTable) : Type 0 where
  pub none : GivesNone old new
  pub same : (hop : ℕ) → list_any (λ h. h == hop) (request_hops sent) ≡ true → has_hop old.rows hop ≡ true

-- Where a message comes, one request goes out at most, under the next identifier whose place is free.
pub data GivesOne (old : PendingTable) : Traffic → PendingTable → Type 0 where
  none_given : (sent : Traffic) (new : PendingTable) → request_hops sent ≡ [] → GivesNone old new → GivesOne old sent new
  one_given : (to : ConnId) (message : Message) (row : Row) (new : PendingTable) → message.header.request ≡ true → length old.rows < old.limit → IsGiven old message.header.hop new.next →
      new.limit ≡ old.limit → hop_of row ≡ message.header.hop → IsWith row old.rows new.rows → GivesOne old ((to, message) ∷ []) new

abbrev pub GivesAt : RelayEvent → PendingTable → Traffic → PendingTable → Type 0
GivesAt (Up peer conn) old sent new = SendsAgain old sent new
GivesAt (Received conn message) old sent new = GivesOne old sent new
GivesAt (Lost conn) old sent new = SendsAgain old sent new
GivesAt Restart old sent new = SendsAgain old sent new

-- ---- over a run

-- at each of the steps
abbrev pub GiveInTurn : List RelayStep → Type 0
GiveInTurn [] = Unit {0}
GiveInTurn (step ∷ past) = GivesAt step.event step.before.pending step.sent step.after.pending × GiveInTurn past

-- the identifiers of the requests that go out new at an event: not of those that are sent again since a connection has ended
abbrev pub new_hops : RelayEvent → Traffic → List ℕ
new_hops (Up peer conn) sent = []
new_hops (Received conn message) sent = request_hops sent
new_hops (Lost conn) sent = []
new_hops Restart sent = []

-- the same of the steps of a run, the last one first
abbrev pub given_in : List RelayStep → List ℕ
given_in [] = []
given_in (step ∷ past) = new_hops step.event step.sent ++ given_in past

-- Of two requests that go out new under one identifier, at least 2^30 others go out new between them.
abbrev pub ComesBackLate : List ℕ → Type 0
ComesBackLate hops = (later between earlier : List ℕ) (hop : ℕ) → hops ≡ later ++ hop ∷ between ++ hop ∷ earlier → 2 ^ 30 ≤ length between

-- each request that is sent has an identifier with the highest bit
abbrev pub HaveHighestBit : List RelayStep → Type 0
HaveHighestBit [] = Unit {0}
HaveHighestBit (step ∷ past) = ((hop : ℕ) → list_any (λ h. h == hop) (request_hops step.sent) ≡ true → (2 ^ 31 ≤ hop) × (hop < 2 ^ 32)) × HaveHighestBit past

-- What a relay keeps to in the identifiers that it gives, over the steps of a run.
pub record GivesRising (past : List RelayStep) : Type 0 where
  pub late : ComesBackLate (given_in past)
  pub highest : HaveHighestBit past
