-- What the messages of a node do to the connections of its process: each goes out on the connection of its number.
use Rattle.std.specs.Prelude.{◌≡◌, ◌<◌, ◌-◌, ◌⊎◌, ℕ, ◌++◌, List, [], ◌∷◌, length, get_or, slice_set, Option, None, Some, IsSome, if◌then◌else◌}
use Rattle.dia_base.specs.declared.number.ConnId.{ConnId}
use Rattle.dia_base.specs.declared.number.Moment.{Moment}
use Rattle.dia_base.specs.declared.number.NodeNo.{NodeNo}
use Rattle.dia_message.specs.declared.message.Message.{Message}
use Rattle.dia_message.specs.Spelling.{octets_of}
use Rattle.dia_message.specs.Traffic.{Traffic}
use Rattle.farm_net.specs.declared.conn.Stage.TheVariants.{Open}
use Rattle.farm_watch.specs.Numbering.{numbered}
use Rattle.farm_watch.specs.Table.{Connection, beginning}
use Rattle.farm_watch.specs.declared.acts.Act.{Act}
use Rattle.farm_watch.specs.declared.acts.Act.TheVariants as life
use Rattle.farm_watch.specs.declared.numbering.Numbering.{Numbering}
use Rattle.farm_watch.specs.declared.site.Side.{Side}
use Rattle.farm_watch.specs.declared.site.WatchSite.{WatchSite}
use Rattle.farm_connections.specs.declared.link.Link.{Link}
use Rattle.farm_connections.specs.declared.local.LocalNode.{LocalNode}
use Rattle.farm_connections.specs.Desks.{marks_of}
use Rattle.farm_connections.specs.Locals.{site_at}
use Rattle.farm_connections.specs.Turns.{AreRising}

-- ---- where

-- the one at this place has this number
abbrev pub IsNumberedAt : {R W : Type 0} → List (Link R W) → ℕ → ConnId → Type 0
IsNumberedAt {R} {W} links place conn = (link : Link R W) → link ≡ get_or links place link → link.id ≡ conn

-- none has this number
abbrev pub HasNone : {R W : Type 0} → List (Link R W) → ConnId → Type 0
HasNone {R} {W} links conn = (place : ℕ) (link : Link R W) → place < length links → link ≡ get_or links place link → link.id ≡ conn → ⊥

-- it is one of them, and has this number
abbrev pub IsLinkOf : {R W : Type 0} → List (Link R W) → ConnId → Link R W → Type 0
IsLinkOf links conn link = (place : ℕ) × (place < length links) × (link ≡ get_or links place link) × (link.id ≡ conn)

-- they stand in the order of their numbers
abbrev pub AreInOrder : {R W : Type 0} → List (Link R W) → Type 0
AreInOrder links = AreRising 0 (marks_of links)

-- ---- what

-- A message goes out on a connection that is open: its octets wait behind all that waited before, or the connection has ended.
-- One that has ended is sent nothing. Nothing else of it changes but how many of its requests are open.
pub record IsSentOn {R W : Type 0} (message : Message) (old new : Link R W) : Type 0 where
  pub goes : old.end ≡ None → old.conn.stage ≡ Open → (new.conn.unsent ≡ old.conn.unsent ++ octets_of message) ⊎ IsSome new.end
  pub is_over : IsSome old.end → new.conn ≡ old.conn
  pub only : new ≡ record old { «open» = new.«open»; end = new.end; conn = new.conn }

-- how many requests of a connection are not answered once this message goes out on it: an answer answers one
abbrev pub open_after : ℕ → Message → ℕ
open_after unanswered message = if message.header.request then unanswered else unanswered - 1

-- A message of the node goes out on a connection: it may answer a request that came on it.
pub record IsPostedOn {R W : Type 0} (message : Message) (old new : Link R W) : Type 0 where
  pub sent : IsSentOn message old new
  pub unanswered : new.«open» ≡ open_after old.«open» message

-- A message goes out on the connection of this number, and each other one is as it was. Where none has the number, all are.
pub data GoesOut {R W : Type 0} (conn : ConnId) (message : Message) (old new : List (Link R W)) : Type 0 where
  on_one : (place : ℕ) (link next : Link R W) → place < length old → link ≡ get_or old place link → link.id ≡ conn → IsPostedOn message link next
      → new ≡ slice_set old place next → GoesOut conn message old new
  on_none : (AreInOrder old → HasNone old conn) → new ≡ old → GoesOut conn message old new

-- These messages go out, one after the other.
pub data AllGoOut {R W : Type 0} (first : List (Link R W)) : Traffic → List (Link R W) → Type 0 where
  nothing_goes : AllGoOut first [] first
  one_more_goes : (sent : Traffic) (conn : ConnId) (message : Message) (links next : List (Link R W)) → AllGoOut first sent links
      → GoesOut conn message links next → AllGoOut first (sent ++ (conn, message) ∷ []) next

-- ---- what a new connection sends first

-- A message goes out on it; nothing else is done.
abbrev pub GreetsOn : {R W : Type 0} → Act → Link R W → Link R W → Type 0
GreetsOn (life.Send message) old new = IsSentOn message old new
GreetsOn (life.PeerUp peer) old new = new ≡ old
GreetsOn (life.PeerLeaves cause) old new = new ≡ old
GreetsOn (life.Pass message) old new = new ≡ old
GreetsOn life.Drop old new = new ≡ old

-- What these acts send goes out, one after the other.
pub data GreetsAll {R W : Type 0} (first : Link R W) : List Act → Link R W → Type 0 where
  greets_none : GreetsAll first [] first
  greets_more : (done : List Act) (act : Act) (mid next : Link R W) → GreetsAll first done mid → GreetsOn act mid next → GreetsAll first (done ++ act ∷ []) next

-- Nothing was sent on it yet, and its life begins as the table says, by what is known of its node.
pub record IsFresh {R W : Type 0} (site : WatchSite) (side : Side) (moment : Moment) (link : Link R W) : Type 0 where
  pub no_end : link.end ≡ None
  pub is_open : link.conn.stage ≡ Open
  pub unsent : link.conn.unsent ≡ []
  pub watch_is : link.watch ≡ (beginning site moment side).next

-- the life of a connection whose node is known so, and what it says first
abbrev pub BeginsSo : Option WatchSite → Side → Moment → Connection → List Act → Type 0
BeginsSo None side moment watch acts = ⊥
BeginsSo (Some site) side moment watch acts = (watch ≡ (beginning site moment side).next) × (acts ≡ (beginning site moment side).acts)

-- A new connection of this node stands behind all others: what its life says first has gone out on it, its requests numbered as the
-- process numbers them.
pub record Begins {R W : Type 0} (locals : List LocalNode) (numbering : Numbering) (local : NodeNo) (side : Side) (moment : Moment) (old new : List (Link R W)) : Type 0 where
  pub site : WatchSite
  pub at : site_at local locals ≡ Some site
  pub fresh : Link R W
  pub is_fresh : IsFresh site side moment fresh
  pub link : Link R W
  pub greets : GreetsAll fresh (numbered numbering moment (beginning site moment side).acts) link
  pub links_are : new ≡ old ++ link ∷ []

-- ---- what waits to be written

-- A connection writes for one turn: of it only what is read and written may change, and whether it has ended.
abbrev pub HasFlushed : {R W : Type 0} → Link R W → Link R W → Type 0
HasFlushed old new = new ≡ record old { end = new.end; conn = new.conn }

-- The connection of this number writes, and each other one is as it was. Where none has the number, all are.
pub data WritesOn {R W : Type 0} (conn : ConnId) (old new : List (Link R W)) : Type 0 where
  writes_on : (place : ℕ) (link next : Link R W) → place < length old → link ≡ get_or old place link → link.id ≡ conn → HasFlushed link next
      → new ≡ slice_set old place next → WritesOn conn old new
  writes_none : (AreInOrder old → HasNone old conn) → new ≡ old → WritesOn conn old new
