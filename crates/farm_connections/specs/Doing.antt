-- What a process does with what its node says, and with what the life of a connection says.
use Rattle.std.specs.Prelude.{◌≡◌, ◌<◌, ◌&&◌, ℕ, Bool, true, false, is_none, List, [], ◌∷◌, ◌++◌, get_or, slice_set, length, Option, Some, None, Result, Ok, Err, IsSome, MatchBool, MatchOption, OnErr, OnOk, if◌then◌else◌}
use Rattle.dia_base.specs.declared.number.ConnId.{ConnId}
use Rattle.dia_base.specs.declared.number.Moment.{Moment}
use Rattle.dia_base.specs.declared.number.NodeNo.{NodeNo}
use Rattle.dia_message.specs.declared.message.Message.{Message}
use Rattle.dia_message.specs.Traffic.{Traffic}
use Rattle.farm_node.specs.Events.{NodeEvent, up, message, leaving}
use Rattle.farm_node.specs.declared.error.NodeError.{NodeError}
use Rattle.farm_node.specs.declared.error.NodeError.TheVariants.{Unanswered}
use Rattle.farm_watch.specs.Numbering.{numbered_effect}
use Rattle.farm_watch.specs.Table.{Effect, after_close, after_message, after_tick}
use Rattle.farm_watch.specs.declared.site.WatchSite.{WatchSite}
use Rattle.farm_watch.specs.declared.acts.Act.{Act}
use Rattle.farm_watch.specs.declared.cause.DisconnectCause.{DisconnectCause}
use Rattle.farm_watch.specs.declared.acts.Act.TheVariants as life
use Rattle.farm_connections.specs.declared.desk.Desk.{Desk}
use Rattle.farm_connections.specs.declared.end.End.{End}
use Rattle.farm_connections.specs.declared.end.End.TheVariants as ending
use Rattle.farm_connections.specs.declared.link.Link.{Link}
use Rattle.farm_connections.specs.declared.link.Standing.{Standing}
use Rattle.farm_connections.specs.declared.link.Standing.TheVariants.{Waiting, Up, Over}
use Rattle.farm_connections.specs.declared.local.LocalNode.{LocalNode}
use Rattle.farm_connections.specs.Counting.{Counts, CountsAll}
use Rattle.farm_connections.specs.Desks.{account_of, mark_of}
use Rattle.farm_connections.specs.Locals.{site_at}
use Rattle.farm_connections.specs.Naming.{IsKeptOut, misnamed}
use Rattle.farm_connections.specs.Recording.{Records}
use Rattle.farm_connections.specs.Sending.{AllGoOut, AreInOrder, HasNone, IsSentOn}
use Rattle.farm_connections.specs.Turns.{may_come_up}

-- ---- one connection

-- it holds of the connection at this place
abbrev pub AtPlace : {N R W : Type 0} → Desk N R W → ℕ → (Link R W → Type 0) → Type 0
AtPlace {N} {R} {W} desk place Holds = (link : Link R W) → link ≡ get_or desk.links.items place link → Holds link

-- Nothing of it has changed but what its node was told of it, how many of its requests are open, and whether it has ended.
abbrev pub IsToldOnly : {R W : Type 0} → Link R W → Link R W → Type 0
IsToldOnly old new = new ≡ record old { standing = new.standing; «open» = new.«open»; end = new.end; conn = record old.conn { stage = new.conn.stage } }

-- The connection at this place has become another one. No other has changed, and the node has not: nothing is recorded or counted.
pub record Becomes {N R W : Type 0} (Is : Link R W → Type 0) (place : ℕ) (old new : Desk N R W) : Type 0 where
  pub next : Link R W
  pub holds : Is next
  pub account_is : account_of new ≡ account_of old
  pub links_are : new.links.items ≡ slice_set old.links.items place next

-- it has ended, with what waits to be written
pub record HasEnded {R W : Type 0} (old new : Link R W) : Type 0 where
  pub ended : IsSome new.end
  pub only : IsToldOnly old new
  pub stands : new.standing ≡ old.standing

-- why it has ended, and when: the first reason stays
abbrev pub end_after : End → Moment → Option (End × Moment) → Option (End × Moment)
end_after why moment ended = if is_none ended then Some (why, moment) else ended

-- it has ended for this reason at this moment, unless it had ended before
pub record EndsFor {R W : Type 0} (why : End) (moment : Moment) (old new : Link R W) : Type 0 where
  pub ends : HasEnded old new
  pub why_is : new.end ≡ end_after why moment old.end

-- ---- what a node says

-- where the node refuses what it is told of a connection, that ends
abbrev pub EndsWhereRefused : {N R W : Type 0} → Result (Unit {0}) NodeError → Link R W → Desk N R W → Type 0
EndsWhereRefused outcome told new = OnErr outcome (IsSome told.end)

-- the same, and else it stands as it did
abbrev pub StandsUnlessRefused : {N R W : Type 0} → Link R W → Result (Unit {0}) NodeError → Link R W → Desk N R W → Type 0
StandsUnlessRefused link outcome told new = OnErr outcome (IsSome told.end) × OnOk outcome (told.end ≡ link.end)

-- a connection whose other end leaves, for this cause
abbrev pub left_for : {R W : Type 0} → DisconnectCause → Link R W → Link R W
left_for cause link = record link { farewell = Some cause }

-- where the node cannot be told that a connection has ended, the process cannot go on
abbrev pub FailsWhereRefused : {N R W : Type 0} → Result (Unit {0}) NodeError → Link R W → Desk N R W → Type 0
FailsWhereRefused outcome told new = OnErr outcome (new.failed ≡ true)

-- The node was told of the connection at this place and did what such a node does, and all that it says goes out, each message
-- once, in order, on the connection of its number. What it was told is recorded and counted once, then what it says, and nothing else.
pub record Says {N R W : Type 0} (On : N → NodeEvent → Traffic → Result (Unit {0}) NodeError → N → Type 0)
    (Then : Result (Unit {0}) NodeError → Link R W → Desk N R W → Type 0) (event : NodeEvent) (place : ℕ) (link : Link R W) (old new : Desk N R W) : Type 0 where
  pub sent : Traffic
  pub outcome : Result (Unit {0}) NodeError
  pub does : On old.node event sent outcome new.node
  pub told : Link R W
  pub only : IsToldOnly link told
  pub follows : Then outcome told new
  pub goes : AllGoOut (slice_set old.links.items place told) sent new.links.items
  pub records : Records event outcome sent old.recorder new.recorder
  pub counts : Counts event outcome sent old.tally new.tally

-- the connection of this number has ended, and each other one is as it was
pub data EndsOne {R W : Type 0} (conn : ConnId) (old new : List (Link R W)) : Type 0 where
  ends_one : (place : ℕ) (link next : Link R W) → place < length old → link ≡ get_or old place link → link.id ≡ conn → HasEnded link next
      → new ≡ slice_set old place next → EndsOne conn old new
  ends_none : (AreInOrder old → HasNone old conn) → new ≡ old → EndsOne conn old new

-- the connection of a request that has no answer
abbrev pub unanswered_by : NodeError → Option ConnId
unanswered_by (Unanswered conn) = Some conn
unanswered_by _ = None

-- Where a request that came on a connection has no answer, that connection ends.
abbrev pub EndsUnanswered : {R W : Type 0} → Result (Unit {0}) NodeError → List (Link R W) → List (Link R W) → Type 0
EndsUnanswered (Ok done) old new = new ≡ old
EndsUnanswered (Err error) old new = MatchOption (unanswered_by error) (new ≡ old) (λ conn. EndsOne conn old new)

-- what a node says at an event that is of no connection, and whom it owes an answer that it does not have
pub record GoesAndEnds {R W : Type 0} (sent : Traffic) (outcome : Result (Unit {0}) NodeError) (old new : List (Link R W)) : Type 0 where
  pub links : List (Link R W)
  pub goes : AllGoOut old sent links
  pub ends : EndsUnanswered outcome links new

-- The node was told this, which is of no connection, and did what such a node does. What it sends is counted, and not recorded here.
pub record Reacts {N R W : Type 0} (On : N → NodeEvent → Traffic → Result (Unit {0}) NodeError → N → Type 0) (event : NodeEvent) (old new : Desk N R W) : Type 0 where
  pub sent : Traffic
  pub outcome : Result (Unit {0}) NodeError
  pub does : On old.node event sent outcome new.node
  pub goes : GoesAndEnds sent outcome old.links.items new.links.items
  pub records : new.recorder ≡ old.recorder
  pub counts : CountsAll old.tally sent new.tally

-- ---- what the life of a connection says

abbrev pub is_waiting : Standing → Bool
is_waiting Waiting = true
is_waiting (Up peer) = false
is_waiting (Over peer) = false

-- whether its node may be told that its neighbour is up
abbrev pub awaits : {R W : Type 0} → Link R W → Bool
awaits link = is_waiting link.standing && is_none link.end

abbrev pub open_peer_of : Standing → Option (End × Moment) → Option NodeNo
open_peer_of (Up peer) None = Some peer
open_peer_of _ _ = None

-- the node that is up on it, if it has not ended
abbrev pub open_peer : {R W : Type 0} → Link R W → Option NodeNo
open_peer link = open_peer_of link.standing link.end

-- The node is told that its neighbour is up, where that may come up on the connection. Where it may not, the connection ends.
abbrev pub Greets : {N R W : Type 0} → (N → NodeEvent → Traffic → Result (Unit {0}) NodeError → N → Type 0) → ℕ → NodeNo → Link R W → Desk N R W → Desk N R W → Type 0
Greets On place peer link old new =
    MatchBool (may_come_up (mark_of link) peer) (Says On EndsWhereRefused (up link.local peer link.id) place link old new) (Becomes (HasEnded link) place old new)

-- An act of the life of the connection at this place.
abbrev pub DoesAct : {N R W : Type 0} → (N → NodeEvent → Traffic → Result (Unit {0}) NodeError → N → Type 0) → ℕ → Act → Link R W → Desk N R W → Desk N R W → Type 0
DoesAct On place (life.Send m) link old new = Becomes (IsSentOn m link) place old new
DoesAct On place (life.PeerUp peer) link old new = MatchBool (awaits link) (Greets On place peer link old new) (new ≡ old)
DoesAct On place (life.PeerLeaves cause) link old new =
    MatchOption (open_peer link) (new ≡ old) (λ peer. Says On (StandsUnlessRefused link) (leaving link.id) place (left_for cause link) old new)
DoesAct On place (life.Pass m) link old new =
    MatchOption (open_peer link) (new ≡ old) (λ peer. Says On EndsWhereRefused (message link.id m) place link old new)
DoesAct On place life.Drop link old new = Becomes (HasEnded link) place old new

-- These acts, one after the other, and no others.
pub data Performs {N R W : Type 0} (On : N → NodeEvent → Traffic → Result (Unit {0}) NodeError → N → Type 0) (place : ℕ) (first : Desk N R W) :
    List Act → Desk N R W → Type 0 where
  begins : Performs On place first [] first
  goes_on : (done : List Act) (mid new : Desk N R W) (act : Act) → Performs On place first done mid → AtPlace mid place (λ link. DoesAct On place act link mid new)
      → Performs On place first (done ++ act ∷ []) new

-- nothing has happened to the node or to a connection, and nothing is recorded or counted
pub record IsStill {N R W : Type 0} (old new : Desk N R W) : Type 0 where
  pub account_is : account_of new ≡ account_of old
  pub links_are : new.links.items ≡ old.links.items

-- The life of a connection says this, and is the next one.
pub record Lived {N R W : Type 0} (effect : Effect) (acts : List Act) (place : ℕ) (link : Link R W) (old new : Desk N R W) : Type 0 where
  pub acts_are : acts ≡ effect.acts
  pub account_is : account_of new ≡ account_of old
  pub links_are : new.links.items ≡ slice_set old.links.items place (record link { watch = effect.next })

-- Its life says this: it lives on as the table says, and the acts are done.
pub record Lives {N R W : Type 0} (On : N → NodeEvent → Traffic → Result (Unit {0}) NodeError → N → Type 0) (effect : Effect) (place : ℕ) (link : Link R W)
    (old new : Desk N R W) : Type 0 where
  pub mid : Desk N R W
  pub account_is : account_of mid ≡ account_of old
  pub links_are : mid.links.items ≡ slice_set old.links.items place (record link { watch = effect.next })
  pub performs : Performs On place mid effect.acts new

-- ---- what happens to a connection

-- Time has passed: what the table says is done by what is known of the connection's own node, its requests numbered as the process numbers
-- them. Where it has ended, or its node is not served here, nothing is; nor where memory is missing.
pub data Ticks {N R W : Type 0} (On : N → NodeEvent → Traffic → Result (Unit {0}) NodeError → N → Type 0) (locals : List LocalNode) (moment : Moment) (place : ℕ)
    (link : Link R W) (old new : Desk N R W) : Type 0 where
  lives : (site : WatchSite) → site_at link.local locals ≡ Some site
      → Lives On (numbered_effect old.numbering moment (after_tick site moment link.watch)) place link old new → Ticks On locals moment place link old new
  is_gone : IsSome link.end → IsStill old new → Ticks On locals moment place link old new
  is_nowhere : site_at link.local locals ≡ None → IsStill old new → Ticks On locals moment place link old new
  rests : (site : WatchSite) → site_at link.local locals ≡ Some site → IsStill old new → Ticks On locals moment place link old new

-- It is to end: what the table says is done by what is known of the connection's own node, its requests numbered as the process numbers
-- them. Where it has ended, or its node is not served here, nothing is. Where memory is missing, it ends at once.
pub data Closes {N R W : Type 0} (On : N → NodeEvent → Traffic → Result (Unit {0}) NodeError → N → Type 0) (locals : List LocalNode) (moment : Moment) (place : ℕ)
    (link : Link R W) (old new : Desk N R W) : Type 0 where
  says : (site : WatchSite) → site_at link.local locals ≡ Some site
      → Lives On (numbered_effect old.numbering moment (after_close site moment link.watch)) place link old new → Closes On locals moment place link old new
  is_over : IsSome link.end → IsStill old new → Closes On locals moment place link old new
  is_nowhere : site_at link.local locals ≡ None → IsStill old new → Closes On locals moment place link old new
  breaks : (site : WatchSite) → site_at link.local locals ≡ Some site → (mid : Desk N R W) → IsStill old mid → Becomes (EndsFor ending.Closed moment link) place mid new
      → Closes On locals moment place link old new

-- why a message is not heard: the connection's node is not served here, or memory is missing
abbrev pub IsUnheard : Option WatchSite → End → Type 0
IsUnheard None why = why ≡ ending.Closed
IsUnheard (Some site) why = why ≡ ending.OutOfMemory

-- What a message says to the life of a connection, by what is known of its own node, where some nodes are not welcome: also the node that
-- was connected to, where the message is its answer and does not name it, and it comes up by its own name alone. Where its node is not
-- served here, or memory is missing, nothing.
abbrev pub Heard : {N R W : Type 0} → List LocalNode → Moment → Message → ℕ → Link R W → Desk N R W → Desk N R W → Result (List Act) End → Type 0
Heard locals moment m place link old new (Ok acts) =
    (site : WatchSite) × (site_at link.local locals ≡ Some site) × (nodes : List NodeNo) × IsKeptOut (misnamed link site m) nodes
    × Lived (after_message site nodes moment m link.watch) acts place link old new
Heard locals moment m place link old new (Err why) = IsUnheard (site_at link.local locals) why × IsStill old new

-- A message came: what the table says is done by what is known of the connection's own node. Where that is not served here, or memory is
-- missing, the connection ends.
pub data Hears {N R W : Type 0} (On : N → NodeEvent → Traffic → Result (Unit {0}) NodeError → N → Type 0) (locals : List LocalNode) (moment : Moment) (m : Message)
    (place : ℕ) (link : Link R W) (old new : Desk N R W) : Type 0 where
  hears : (site : WatchSite) → site_at link.local locals ≡ Some site → (nodes : List NodeNo) → IsKeptOut (misnamed link site m) nodes
      → Lives On (after_message site nodes moment m link.watch) place link old new → Hears On locals moment m place link old new
  is_deaf : IsSome link.end → IsStill old new → Hears On locals moment m place link old new
  breaks : (why : End) → IsUnheard (site_at link.local locals) why → (mid : Desk N R W) → IsStill old mid → Becomes (EndsFor why moment link) place mid new
      → Hears On locals moment m place link old new
