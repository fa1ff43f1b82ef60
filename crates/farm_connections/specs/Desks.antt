-- A node with its connections as turns see it.
use Rattle.std.specs.Prelude.{◌≡◌, ◌<◌, ℕ, ◌&&◌, Bool, true, false, is_some, length, position, ◌+◌, [], ◌∷◌, ◌++◌, if◌then◌else◌, get_or, slice_index_or, List, map, Option, None, Some}
use Rattle.dia_base.specs.declared.number.ConnId.{ConnId}
use Rattle.dia_base.specs.declared.number.NodeNo.{NodeNo}
use Rattle.dia_base.specs.declared.number.Moment.{Moment}
use Rattle.dia_message.specs.declared.message.Message.{Message}
use Rattle.dia_message.specs.Traffic.{Traffic}
use Rattle.std.specs.Prelude.{Result, Ok, Err}
use Rattle.farm_node.specs.Events.{NodeEvent}
use Rattle.farm_node.specs.declared.error.NodeError.{NodeError}
use Rattle.farm_metrics.specs.declared.tally.Tally.{Tally}
use Rattle.farm_record.specs.declared.recorder.Recorder.{Recorder}
use Rattle.farm_watch.specs.Table.{after_message}
use Rattle.farm_watch.specs.declared.site.Side.{Side}
use Rattle.farm_watch.specs.declared.site.Side.TheVariants.{Accepts, Connects}
use Rattle.farm_watch.specs.declared.site.WatchSite.{WatchSite}
use Rattle.farm_watch.specs.declared.watch.Waits.{Waits}
use Rattle.farm_connections.specs.declared.desk.Desk.{Desk}
use Rattle.farm_connections.specs.declared.end.Ended.{Ended}
use Rattle.farm_connections.specs.declared.link.Link.{Link}
use Rattle.farm_connections.specs.declared.link.Standing.{Standing}
use Rattle.farm_connections.specs.declared.link.Standing.TheVariants.{Waiting, Up, Over}
use Rattle.farm_connections.specs.declared.naming.NameRule.{NameRule}
use Rattle.farm_connections.specs.Turns.{Goes, IsDown, Kept, Mark, Told, may_come_up}

abbrev pub mark_of : {R W : Type 0} → Link R W → Mark
mark_of link = record { id = link.id; local = link.local; accepted = link.accepted; standing = link.standing; barred = link.barred.items; names = link.names }

abbrev pub marks_of : {R W : Type 0} → List (Link R W) → List Mark
marks_of links = map mark_of links

-- the other end connects
abbrev pub accepts : Side → Bool
accepts Accepts = true
accepts (Connects peer) = false

-- There is one connection more, under this number, of this node, which the other end has made or it: nobody is up on it, and these may come up.
abbrev pub IsMade : {R W : Type 0} → ConnId → NodeNo → Bool → List NodeNo → NameRule → List (Link R W) → List (Link R W) → Type 0
IsMade conn local accepted barred names old new =
    marks_of new ≡ marks_of old ++ record { id = conn; local = local; accepted = accepted; standing = Waiting; barred = barred; names = names } ∷ []

-- the node of a process, and what is recorded and counted of what it is told and sends
pub record Account (N : Type 0) : Type 0 where
  pub node : N
  pub recorder : Recorder
  pub tally : Tally

abbrev pub account_of : {N R W : Type 0} → Desk N R W → Account N
account_of desk = record { node = desk.node; recorder = desk.recorder; tally = desk.tally }

abbrev pub kept_by : {N R W : Type 0} → Desk N R W → Kept N
kept_by desk = record { node = desk.node; marks = marks_of desk.links.items; made = desk.made }

-- It has gone from the one to the other, telling its node what it was to tell.
abbrev pub Tells : {N R W : Type 0} → (N → NodeEvent → Traffic → Result (Unit {0}) NodeError → N → Type 0) → Desk N R W → Desk N R W → Type 0
Tells On old new = (told : List Told) × Goes On (kept_by old) told (kept_by new)

-- Something was recorded, and nothing else has happened.
abbrev pub IsRecordedOnly : {N R W : Type 0} → Desk N R W → Desk N R W → Type 0
IsRecordedOnly old new = new ≡ record old { recorder = new.recorder }

-- the node at the other end, if the node here was ever told of it
abbrev pub peer_of : Standing → Option NodeNo
peer_of Waiting = None
peer_of (Up peer) = Some peer
peer_of (Over peer) = Some peer

-- It is the end of one of these connections: its number, its node, its peer, why it has ended, why its peer has said goodbye, if it
-- has, and its streams.
pub record IsEndOf {R W : Type 0} (links : List (Link R W)) (ended : Ended R W) : Type 0 where
  pub place : ℕ
  pub link : Link R W
  pub there : place < length links
  pub at : link ≡ slice_index_or links place link
  pub since : Moment
  pub has_ended : link.end ≡ Some (ended.why, since)
  pub is : ended ≡ record { conn = link.id; local = link.local; peer = peer_of link.standing; why = ended.why; farewell = link.farewell; streams = link.conn }

-- ---- ends that the node is still to be told of

abbrev pub is_up : Standing → Bool
is_up Waiting = false
is_up (Up peer) = true
is_up (Over peer) = false

-- It has ended, and the last that the node was told of it is a message, or that it is up.
abbrev pub is_to_be_told : {R W : Type 0} → Link R W → Bool
is_to_be_told link = is_up link.standing && is_some link.end

-- There is no such connection.
abbrev pub AreSettled : {R W : Type 0} → List (Link R W) → Type 0
AreSettled links = position is_to_be_told links ≡ None

-- one at this place passes the test
abbrev pub IsPlaceOf : {A : Type 0} → (A → Bool) → List A → ℕ → Type 0
IsPlaceOf {A} passes xs place = (place < length xs) × ((x : A) → passes (get_or xs place x) ≡ true)

-- how many are up
abbrev pub ups : List Mark → ℕ
ups [] = 0
ups (mark ∷ marks) = (if is_up mark.standing then 1 else 0) + ups marks

-- what is known of the one at this place
abbrev pub StandsAt : {R W : Type 0} → List (Link R W) → ℕ → Standing → Type 0
StandsAt {R} {W} links place standing = (link : Link R W) → link ≡ get_or links place link → link.standing ≡ standing

-- this node may come up on the one at this place
abbrev pub MayComeUpAt : {R W : Type 0} → List (Link R W) → ℕ → NodeNo → Type 0
MayComeUpAt {R} {W} links place peer = (link : Link R W) → link ≡ get_or links place link → may_come_up (mark_of link) peer ≡ true

-- nobody is up on the one at this place
abbrev pub IsDownAt : {R W : Type 0} → List (Link R W) → ℕ → Type 0
IsDownAt {R} {W} links place = (link : Link R W) → link ≡ get_or links place link → IsDown link.standing

-- where the node was told that this node is up, and did what it was told or refused it
abbrev pub standing_after : NodeNo → Result (Unit {0}) NodeError → Standing
standing_after peer (Ok done) = Up peer
standing_after peer (Err error) = Over peer

-- Whatever message comes on a connection that waits for this, it is of no account which nodes are up.
abbrev pub NeverAsks : Waits → Type 0
NeverAsks waits =
    (site : WatchSite) (nodes others : List NodeNo) (moment : Moment) (message : Message) (sent : ℕ)
    → after_message site nodes moment message (record { waits = waits; sent = sent })
    ≡ after_message site others moment message (record { waits = waits; sent = sent })
