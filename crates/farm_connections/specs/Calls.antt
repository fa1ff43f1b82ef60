-- What one call tells the node of a process: what a connection brings, or that time has passed, that something waits for the node,
-- or that its connections are to end; then each end that the node was not told of yet; and nothing else.
use Rattle.std.specs.Prelude.{◌≡◌, ◌≢◌, ◌<◌, ◌≤◌, ◌+◌, ℕ, List, [], ◌∷◌, ◌++◌, length, Option, Result, Ok, Err, MatchOption}
use Rattle.dia_base.specs.declared.number.ConnId.{ConnId}
use Rattle.dia_base.specs.declared.number.Moment.{Moment}
use Rattle.dia_message.specs.declared.message.Message.{Message}
use Rattle.dia_message.specs.Traffic.{Traffic}
use Rattle.farm_net.specs.Turn.{Receives}
use Rattle.farm_net.specs.declared.conn.Stage.TheVariants.{Open}
use Rattle.farm_net.specs.declared.loss.Loss.{Loss}
use Rattle.farm_node.specs.Events.{NodeEvent, lost, tick}
use Rattle.farm_node.specs.declared.error.NodeError.{NodeError}
use Rattle.farm_connections.specs.declared.desk.Desk.{Desk}
use Rattle.farm_connections.specs.declared.end.End.TheVariants as ending
use Rattle.farm_connections.specs.declared.link.Link.{Link}
use Rattle.farm_connections.specs.declared.local.LocalNode.{LocalNode}
use Rattle.farm_connections.specs.Doing.{AtPlace, Becomes, Closes, EndsFor, FailsWhereRefused, Hears, IsStill, Reacts, Says, Ticks}
use Rattle.farm_connections.specs.Sending.{AreInOrder, HasNone}

-- ---- ends

-- The node is told that connections have ended, of each by its number, and of nothing else.
pub data Settles {N R W : Type 0} (On : N → NodeEvent → Traffic → Result (Unit {0}) NodeError → N → Type 0) (first : Desk N R W) : Desk N R W → Type 0 where
  no_end : Settles On first first
  tells_end : (place : ℕ) (mid new : Desk N R W) → Settles On first mid → place < length mid.links.items
      → AtPlace mid place (λ link. Says On FailsWhereRefused (lost link.id) place link mid new) → Settles On first new

-- A call does this, and then the node is told of ends.
pub record ThenSettles {N R W : Type 0} (On : N → NodeEvent → Traffic → Result (Unit {0}) NodeError → N → Type 0) (Does : Desk N R W → Desk N R W → Type 0)
    (old new : Desk N R W) : Type 0 where
  pub mid : Desk N R W
  pub does : Does old mid
  pub settles : Settles On mid new

-- ---- what a connection brings

-- These messages came on the connection at this place, one after the other, and no others.
pub data HearsAll {N R W : Type 0} (On : N → NodeEvent → Traffic → Result (Unit {0}) NodeError → N → Type 0) (locals : List LocalNode) (moment : Moment) (place : ℕ)
    (first : Desk N R W) : List Message → Desk N R W → Type 0 where
  hears_none : HearsAll On locals moment place first [] first
  hears_more : (done : List Message) (mid new : Desk N R W) (m : Message) → HearsAll On locals moment place first done mid
      → AtPlace mid place (λ link. Hears On locals moment m place link mid new) → HearsAll On locals moment place first (done ++ m ∷ []) new

-- A connection has read: these are the messages of its own octets, behind those that were no whole message before. Nothing else of it
-- has changed.
pub record Reads {R W : Type 0} (remaining : R → Option (List ℕ)) (messages : List Message) (outcome : Result (Unit {0}) Loss) (old new : Link R W) : Type 0 where
  pub is_open : old.conn.stage ≡ Open → Receives (remaining old.conn.reader) (remaining new.conn.reader) old.conn.rest messages new.conn.rest outcome
  pub is_over : old.conn.stage ≢ Open → messages ≡ []
  pub unsent : new.conn.unsent ≡ old.conn.unsent
  pub only : new ≡ record old { conn = new.conn }

-- where it was lost, it ends, and that is why
abbrev pub EndsIfLost : {N R W : Type 0} → Result (Unit {0}) Loss → Moment → ℕ → Desk N R W → Desk N R W → Type 0
EndsIfLost (Ok done) moment place old new = new ≡ old
EndsIfLost (Err loss) moment place old new = AtPlace old place (λ link. Becomes (EndsFor (ending.Loss loss) moment link) place old new)

-- The connection at this place reads so many messages at most, and what it brings is heard.
pub record Brings {N R W : Type 0} (On : N → NodeEvent → Traffic → Result (Unit {0}) NodeError → N → Type 0) (remaining : R → Option (List ℕ)) (locals : List LocalNode)
    (most : ℕ) (moment : Moment) (place : ℕ) (link : Link R W) (old new : Desk N R W) : Type 0 where
  pub messages : List Message
  pub few : length messages ≤ most
  pub outcome : Result (Unit {0}) Loss
  pub mid : Desk N R W
  pub heard : Desk N R W
  pub reads : Becomes (Reads remaining messages outcome link) place old mid
  pub hears : HearsAll On locals moment place mid messages heard
  pub ends : EndsIfLost outcome moment place heard new

-- one that has ended is not read
abbrev pub BringsHere : {N R W : Type 0} → (N → NodeEvent → Traffic → Result (Unit {0}) NodeError → N → Type 0) → (R → Option (List ℕ)) → List LocalNode → ℕ → Moment
    → ℕ → Link R W → Desk N R W → Desk N R W → Type 0
BringsHere On remaining locals most moment place link old new = MatchOption link.end (Brings On remaining locals most moment place link old new) (λ why. IsStill old new)

-- The connection of this number reads, and what it brings is heard. Where none has the number, nothing is.
pub data BringsOn {N R W : Type 0} (On : N → NodeEvent → Traffic → Result (Unit {0}) NodeError → N → Type 0) (remaining : R → Option (List ℕ)) (locals : List LocalNode)
    (most : ℕ) (moment : Moment) (conn : ConnId) (old new : Desk N R W) : Type 0 where
  brings_on : (place : ℕ) → place < length old.links.items
      → AtPlace old place (λ link. (link.id ≡ conn) × BringsHere On remaining locals most moment place link old new)
      → BringsOn On remaining locals most moment conn old new
  brings_none : (AreInOrder old.links.items → HasNone old.links.items conn) → new ≡ old → BringsOn On remaining locals most moment conn old new

-- ---- what is of all connections

-- So many connections, from the first one on, have done this, one after the other.
pub data EachDoes {N R W : Type 0} (Does : ℕ → Link R W → Desk N R W → Desk N R W → Type 0) (first : Desk N R W) : ℕ → Desk N R W → Type 0 where
  none_does : EachDoes Does first 0 first
  next_does : (place : ℕ) (mid new : Desk N R W) → EachDoes Does first place mid → AtPlace mid place (λ link. Does place link mid new)
      → EachDoes Does first (place + 1) new

-- Time has passed for each connection.
abbrev pub AllTick : {N R W : Type 0} → (N → NodeEvent → Traffic → Result (Unit {0}) NodeError → N → Type 0) → List LocalNode → Moment → Desk N R W → Desk N R W → Type 0
AllTick On locals moment old new = EachDoes (Ticks On locals moment) old (length old.links.items) new

-- Each connection is to end.
abbrev pub AllClose : {N R W : Type 0} → (N → NodeEvent → Traffic → Result (Unit {0}) NodeError → N → Type 0) → List LocalNode → Moment → Desk N R W → Desk N R W → Type 0
AllClose On locals moment old new = EachDoes (Closes On locals moment) old (length old.links.items) new

-- Time has passed for the node, and then for each connection.
pub record TimePasses {N R W : Type 0} (On : N → NodeEvent → Traffic → Result (Unit {0}) NodeError → N → Type 0) (locals : List LocalNode) (moment : Moment)
    (old new : Desk N R W) : Type 0 where
  pub mid : Desk N R W
  pub node : Reacts On (tick moment) old mid
  pub connections : AllTick On locals moment mid new
