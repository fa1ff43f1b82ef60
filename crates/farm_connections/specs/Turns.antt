-- What a process tells its node, and in which order: of each connection once that it is up, then its messages and that the other
-- end leaves, and once, last, that it has ended (RFC 6733, sections 5.5.4 and 5.6).
use Rattle.std.specs.Prelude.{◌≡◌, ◌≢◌, ℕ, ◌+◌, ◌<◌, ◌==◌, Bool, true, not, List, [], ◌∷◌, ◌++◌, Result, Ok, Err, if◌then◌else◌}
use Rattle.std.specs.List.{fold, list_any}
use Rattle.dia_base.specs.declared.number.ConnId.{ConnId}
use Rattle.dia_base.specs.declared.number.NodeNo.{NodeNo}
use Rattle.dia_message.specs.declared.message.Message.{Message}
use Rattle.dia_message.specs.Traffic.{Traffic}
use Rattle.farm_node.specs.Events.{NodeEvent, up, message, leaving, lost, tick, wake}
use Rattle.farm_node.specs.declared.error.NodeError.{NodeError}
use Rattle.farm_connections.specs.declared.link.Standing.{Standing}
use Rattle.farm_connections.specs.declared.link.Standing.TheVariants.{Waiting, Up, Over}
use Rattle.farm_connections.specs.declared.naming.NameRule.{NameRule}

-- ---- what a process keeps

-- a connection: its number, the node of this process whose it is, whether the other end has connected, what the node was told of it,
-- the nodes that may not come up on it, and by which name one comes up that was connected to
pub record Mark : Type 0 where
  pub id : ConnId
  pub local : NodeNo
  pub accepted : Bool
  pub standing : Standing
  pub barred : List NodeNo
  pub names : NameRule

abbrev pub may_come_up : Mark → NodeNo → Bool
may_come_up mark peer = not (list_any (λ node. node.0 == peer.0) mark.barred)

abbrev pub standing_as : Mark → Standing → Mark
standing_as mark standing = record mark { standing = standing }

-- the node, its connections in order, and how many were ever made
pub record Kept (N : Type 0) : Type 0 where
  pub node : N
  pub marks : List Mark
  pub made : ℕ

-- each number is above those before it, and above this one
abbrev pub AreRising : ℕ → List Mark → Type 0
AreRising above [] = Unit {0}
AreRising above (mark ∷ marks) = (above < mark.id.0) × AreRising mark.id.0 marks

-- a node without connections
abbrev pub beginning : {N : Type 0} → N → Kept N
beginning node = record { node = node; marks = []; made = 0 }

-- ---- what its node is told

-- an event of the node, and whether the node did what it was told
pub record Told : Type 0 where
  pub event : NodeEvent
  pub outcome : Result (Unit {0}) NodeError

abbrev pub told_of : NodeEvent → Result (Unit {0}) NodeError → List Told
told_of event outcome = record { event = event; outcome = outcome } ∷ []

-- it is not up
abbrev pub IsDown : Standing → Type 0
IsDown Waiting = Unit {0}
IsDown (Up peer) = ⊥
IsDown (Over peer) = Unit {0}

-- an event that is of no connection
abbrev pub IsOfNone : NodeEvent → Type 0
IsOfNone (up local peer conn) = ⊥
IsOfNone (message conn m) = ⊥
IsOfNone (leaving conn) = ⊥
IsOfNone (lost conn) = ⊥
IsOfNone (tick moment) = Unit {0}
IsOfNone wake = Unit {0}

-- A process has gone from the one to the other, and its node was told this on the way, and did each time what such a node does.
pub data Goes {N : Type 0} (On : N → NodeEvent → Traffic → Result (Unit {0}) NodeError → N → Type 0) (first : Kept N) : List Told → Kept N → Type 0 where
  rests : Goes On first [] first
  -- A connection of which nothing was told comes up, with a node that may come up on it.
  comes_up : (told : List Told) (node next : N) (front back : List Mark) (made : ℕ) (mark : Mark) (peer : NodeNo) (sent : Traffic) →
      Goes On first told (record { node = node; marks = front ++ mark ∷ back; made = made }) → mark.standing ≡ Waiting
      → may_come_up mark peer ≡ true → On node (up mark.local peer mark.id) sent (Ok tt) next →
      Goes On first (told ++ told_of (up mark.local peer mark.id) (Ok tt))
      (record { node = next; marks = front ++ standing_as mark (Up peer) ∷ back; made = made })
  -- The node refuses it: it is told no more of it.
  is_refused : (told : List Told) (node next : N) (front back : List Mark) (made : ℕ) (mark : Mark) (peer : NodeNo) (sent : Traffic) (error : NodeError) →
      Goes On first told (record { node = node; marks = front ++ mark ∷ back; made = made }) → mark.standing ≡ Waiting
      → may_come_up mark peer ≡ true → On node (up mark.local peer mark.id) sent (Err error) next →
      Goes On first (told ++ told_of (up mark.local peer mark.id) (Err error))
      (record { node = next; marks = front ++ standing_as mark (Over peer) ∷ back; made = made })
  -- A message comes on one that is up.
  hears : (told : List Told) (node next : N) (front back : List Mark) (made : ℕ) (mark : Mark) (peer : NodeNo) (m : Message) (sent : Traffic)
      (outcome : Result (Unit {0}) NodeError) →
      Goes On first told (record { node = node; marks = front ++ mark ∷ back; made = made }) → mark.standing ≡ Up peer
      → On node (message mark.id m) sent outcome next →
      Goes On first (told ++ told_of (message mark.id m) outcome) (record { node = next; marks = front ++ mark ∷ back; made = made })
  -- The node at the other end of one that is up leaves.
  leaves : (told : List Told) (node next : N) (front back : List Mark) (made : ℕ) (mark : Mark) (peer : NodeNo) (sent : Traffic)
      (outcome : Result (Unit {0}) NodeError) →
      Goes On first told (record { node = node; marks = front ++ mark ∷ back; made = made }) → mark.standing ≡ Up peer
      → On node (leaving mark.id) sent outcome next →
      Goes On first (told ++ told_of (leaving mark.id) outcome) (record { node = next; marks = front ++ mark ∷ back; made = made })
  -- One that is up ends.
  ends : (told : List Told) (node next : N) (front back : List Mark) (made : ℕ) (mark : Mark) (peer : NodeNo) (sent : Traffic)
      (outcome : Result (Unit {0}) NodeError) →
      Goes On first told (record { node = node; marks = front ++ mark ∷ back; made = made }) → mark.standing ≡ Up peer
      → On node (lost mark.id) sent outcome next →
      Goes On first (told ++ told_of (lost mark.id) outcome) (record { node = next; marks = front ++ standing_as mark (Over peer) ∷ back; made = made })
  -- Time passes, or the node is woken.
  wakes : (told : List Told) (node next : N) (marks : List Mark) (made : ℕ) (event : NodeEvent) (sent : Traffic) (outcome : Result (Unit {0}) NodeError) →
      Goes On first told (record { node = node; marks = marks; made = made }) → IsOfNone event → On node event sent outcome next →
      Goes On first (told ++ told_of event outcome) (record { node = next; marks = marks; made = made })
  -- A connection is made, with a number that none had.
  makes : (told : List Told) (node : N) (marks : List Mark) (made : ℕ) (local : NodeNo) (accepted : Bool) (barred : List NodeNo) (names : NameRule) →
      Goes On first told (record { node = node; marks = marks; made = made }) →
      Goes On first told
      (record {
        node = node;
        marks = marks ++ record { id = record { 0 = made + 1 }; local = local; accepted = accepted; standing = Waiting; barred = barred; names = names } ∷ [];
        made = made + 1;
      })
  -- One that is not up is let go.
  lets_go : (told : List Told) (node : N) (front back : List Mark) (made : ℕ) (mark : Mark) →
      Goes On first told (record { node = node; marks = front ++ mark ∷ back; made = made }) → IsDown mark.standing →
      Goes On first told (record { node = node; marks = front ++ back; made = made })

-- ---- turns

-- what a node was told of a connection: nothing, that it is up, that it has ended; or something out of turn
pub data Turn : Type 0 where
  before : Turn
  during : Turn
  after : Turn
  broken : Turn

-- that it is up comes first; where the node refuses it, nothing comes behind
abbrev pub after_up : Turn → Result (Unit {0}) NodeError → Turn
after_up before (Ok done) = during
after_up before (Err error) = after
after_up during outcome = broken
after_up after outcome = broken
after_up broken outcome = broken

-- messages come while it is up
abbrev pub after_message : Turn → Turn
after_message before = broken
after_message during = during
after_message after = broken
after_message broken = broken

-- that the other end leaves comes while it is up, and messages come behind that
abbrev pub after_leaving : Turn → Turn
after_leaving before = broken
after_leaving during = during
after_leaving after = broken
after_leaving broken = broken

-- that it has ended comes last, where it was up
abbrev pub after_lost : Turn → Turn
after_lost before = broken
after_lost during = after
after_lost after = broken
after_lost broken = broken

abbrev pub after_event : ℕ → Turn → NodeEvent → Result (Unit {0}) NodeError → Turn
after_event conn turn (up local peer id) outcome = if id.0 == conn then after_up turn outcome else turn
after_event conn turn (message id m) outcome = if id.0 == conn then after_message turn else turn
after_event conn turn (leaving id) outcome = if id.0 == conn then after_leaving turn else turn
after_event conn turn (lost id) outcome = if id.0 == conn then after_lost turn else turn
after_event conn turn (tick moment) outcome = turn
after_event conn turn wake outcome = turn

abbrev pub after_told : ℕ → Turn → Told → Turn
after_told conn turn told = after_event conn turn told.event told.outcome

-- whose turn it is with the connection of this number, after all that the node was told
abbrev pub turn_of : ℕ → List Told → Turn
turn_of conn told = fold (after_told conn) before told

-- Of no connection was it told anything out of turn.
abbrev pub IsInTurn : List Told → Type 0
IsInTurn told = (conn : ℕ) → turn_of conn told ≢ broken
