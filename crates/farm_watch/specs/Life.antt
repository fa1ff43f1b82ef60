-- The acts of a whole life of a connection, from the moment that it was made (RFC 6733, section 5.6).
use Rattle.std.specs.Prelude.{List, [], ◌∷◌, ◌++◌}
use Rattle.dia_base.specs.declared.number.Moment.{Moment}
use Rattle.dia_base.specs.declared.number.NodeNo.{NodeNo}
use Rattle.dia_message.specs.declared.message.Message.{Message}
use Rattle.farm_watch.specs.Table.{Connection, Effect, after_close, after_message, after_tick, beginning}
use Rattle.farm_watch.specs.declared.acts.Act.{Act}
use Rattle.farm_watch.specs.declared.acts.Act.TheVariants.{Send, PeerUp, PeerLeaves, Pass, Drop}
use Rattle.farm_watch.specs.declared.site.Side.{Side}
use Rattle.farm_watch.specs.declared.site.WatchSite.{WatchSite}

-- what may happen to a connection
pub data Event : Type 0 where
  -- a message comes, while these nodes are up
  came : List NodeNo → Moment → Message → Event
  ticked : Moment → Event
  closed : Moment → Event

abbrev pub effect_of : WatchSite → Connection → Event → Effect
effect_of site conn (came nodes moment message) = after_message site nodes moment message conn
effect_of site conn (ticked moment) = after_tick site moment conn
effect_of site conn (closed moment) = after_close site moment conn

-- the acts of these events, one after the other
abbrev pub acts_from : WatchSite → Connection → List Event → List Act
acts_from site conn [] = []
acts_from site conn (event ∷ events) = (effect_of site conn event).acts ++ acts_from site (effect_of site conn event).next events

-- the acts of a connection that was made at this moment
abbrev pub life_of : WatchSite → Moment → Side → List Event → List Act
life_of site moment side events = (beginning site moment side).acts ++ acts_from site (beginning site moment side).next events

-- ---- what they are

-- the node at the other end is not up yet, is up, is up and leaves, or the connection has ended
pub data Phase : Type 0 where
  before_up : Phase
  while_up : Phase
  while_leaving : Phase
  after_end : Phase

-- A node comes up once. The node here is told at most once that it leaves, and is passed messages only while it is up. An end comes
-- once, and nothing behind it.
abbrev pub IsLife : Phase → List Act → Type 0
IsLife phase [] = Unit {0}
IsLife before_up (Send message ∷ acts) = IsLife before_up acts
IsLife before_up (PeerUp node ∷ acts) = IsLife while_up acts
IsLife before_up (PeerLeaves cause ∷ acts) = ⊥
IsLife before_up (Pass message ∷ acts) = ⊥
IsLife before_up (Drop ∷ acts) = IsLife after_end acts
IsLife while_up (Send message ∷ acts) = IsLife while_up acts
IsLife while_up (PeerUp node ∷ acts) = ⊥
IsLife while_up (PeerLeaves cause ∷ acts) = IsLife while_leaving acts
IsLife while_up (Pass message ∷ acts) = IsLife while_up acts
IsLife while_up (Drop ∷ acts) = IsLife after_end acts
IsLife while_leaving (Send message ∷ acts) = IsLife while_leaving acts
IsLife while_leaving (PeerUp node ∷ acts) = ⊥
IsLife while_leaving (PeerLeaves cause ∷ acts) = ⊥
IsLife while_leaving (Pass message ∷ acts) = IsLife while_leaving acts
IsLife while_leaving (Drop ∷ acts) = IsLife after_end acts
IsLife after_end (act ∷ acts) = ⊥
