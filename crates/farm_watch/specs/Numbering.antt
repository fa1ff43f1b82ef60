-- The End-to-End Identifiers of the requests that a process writes itself on its connections (RFC 6733, section 3).
use Rattle.std.specs.Prelude.{ℕ, Bool, false, ◌+◌, ◌*◌, ◌/◌, ◌%◌, List, [], ◌∷◌, ◌++◌, if◌then◌else◌}
use Rattle.dia_base.specs.declared.number.Moment.{Moment}
use Rattle.dia_message.specs.declared.message.Message.{Message}
use Rattle.farm_watch.specs.Table.{Effect}
use Rattle.farm_watch.specs.declared.acts.Act.{Act}
use Rattle.farm_watch.specs.declared.acts.Act.TheVariants.{Send, PeerUp, PeerLeaves, Pass, Drop}
use Rattle.farm_watch.specs.declared.numbering.Numbering.{Numbering}
use Rattle.farm_watch.specs.declared.numbering.Numbering.TheVariants.{HopByHop, ByClock}

-- ---- identifiers

-- the high 12 bits are the low 12 of the seconds, the low 20 those of the count
abbrev pub identifier_at : Moment → ℕ → ℕ
identifier_at moment count = (moment.0 / 1000) % 4096 * 1048576 + count % 1048576

-- behind the last count of 20 bits comes 0
abbrev pub count_after : ℕ → ℕ
count_after count = (count % 1048576 + 1) % 1048576

-- ---- acts

abbrev pub with_end : ℕ → Message → Message
with_end identifier m = record m { header = record m.header { «end» = identifier } }

-- a request has the identifier of this moment and count; an answer keeps that of its request (6.2)
abbrev pub numbered_message : Moment → ℕ → Message → Message
numbered_message moment count m = if m.header.request then with_end (identifier_at moment count) m else m

-- Only what the connection sends itself is numbered, and not what the node is passed.
abbrev pub numbered_act : Moment → ℕ → Act → Act
numbered_act moment count (Send m) = Send (numbered_message moment count m)
numbered_act moment count (PeerUp node) = PeerUp node
numbered_act moment count (PeerLeaves cause) = PeerLeaves cause
numbered_act moment count (Pass m) = Pass m
numbered_act moment count Drop = Drop

-- a request that the connection sends itself
abbrev pub sends_request : Act → Bool
sends_request (Send m) = m.header.request
sends_request (PeerUp node) = false
sends_request (PeerLeaves cause) = false
sends_request (Pass m) = false
sends_request Drop = false

-- each request that is sent takes one
abbrev pub count_after_act : ℕ → Act → ℕ
count_after_act count (Send m) = if m.header.request then count_after count else count
count_after_act count (PeerUp node) = count
count_after_act count (PeerLeaves cause) = count
count_after_act count (Pass m) = count
count_after_act count Drop = count

abbrev pub count_after_acts : ℕ → List Act → ℕ
count_after_acts count [] = count
count_after_acts count (act ∷ acts) = count_after_acts (count_after_act count act) acts

abbrev pub numbered_by_clock : Moment → ℕ → List Act → List Act
numbered_by_clock moment count [] = []
numbered_by_clock moment count (act ∷ acts) = numbered_act moment count act ∷ numbered_by_clock moment (count_after_act count act) acts

-- the acts of an event at this moment, as they are done
abbrev pub numbered : Numbering → Moment → List Act → List Act
numbered HopByHop moment acts = acts
numbered (ByClock count) moment acts = numbered_by_clock moment count acts

-- for the acts of the next event
abbrev pub numbering_after : Numbering → List Act → Numbering
numbering_after HopByHop acts = HopByHop
numbering_after (ByClock count) acts = ByClock (count_after_acts count acts)

-- what an event does, with its acts as they are done
abbrev pub numbered_effect : Numbering → Moment → Effect → Effect
numbered_effect numbering moment effect = record { acts = numbered numbering moment effect.acts; next = effect.next }

-- ---- a process

-- what the life of one of its connections says at a moment
pub record Said : Type 0 where
  pub moment : Moment
  pub acts : List Act

abbrev pub end_of : Message → List ℕ
end_of m = if m.header.request then m.header.«end» ∷ [] else []

-- the End-to-End Identifiers of the requests that are sent
abbrev pub ends_of : List Act → List ℕ
ends_of [] = []
ends_of (Send m ∷ acts) = end_of m ++ ends_of acts
ends_of (PeerUp node ∷ acts) = ends_of acts
ends_of (PeerLeaves cause ∷ acts) = ends_of acts
ends_of (Pass m ∷ acts) = ends_of acts
ends_of (Drop ∷ acts) = ends_of acts

-- those of all requests that a process sends, on whichever connections, from this count on
abbrev pub ends_by : ℕ → List Said → List ℕ
ends_by count [] = []
ends_by count (said ∷ more) = ends_of (numbered_by_clock said.moment count said.acts) ++ ends_by (count_after_acts count said.acts) more
