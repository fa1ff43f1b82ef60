-- Where a step can apply: said of the farm before it, apart from what the step does.
use Rattle.std.specs.Prelude.{◌≡◌, ℕ, Bool, true, false, not, ◌&&◌, ◌||◌, List, [], ◌∷◌, length, nat_lt, count_by, Option, Some, None, slice_get}
use Rattle.std.specs.List.{list_any}
use Rattle.dia_base.specs.declared.number.NodeNo.{NodeNo}
use Rattle.front_core.specs.declared.worker.Job.{Job}
use Rattle.front_core.specs.declared.worker.Worker.{Worker}
use Rattle.front_core.specs.declared.worker.Worker.TheVariants.{Idle, Picked, Done}
use Rattle.front_core.specs.FrontState.{FrontState}
use Rattle.farm_base.specs.declared.site.Site.{Site}
use Rattle.farm_model.specs.declared.state.Direction.{Direction}
use Rattle.farm_base.specs.declared.step.Step.{Step}
use Rattle.farm_base.specs.declared.step.Step.TheVariants.{Up, Accept, Opened, Send, Deliver, Lose, Cut, Drop}
use Rattle.farm_base.specs.declared.step.Step.TheVariants.{Restart, Crash, Pick, Charge, Refuse, Emit, Sweep, ChangeTerms}
use Rattle.farm_model.specs.InFlight.{goes, knows_other}
use Rattle.farm_base.specs.Nodes.{is_client, is_front, is_relay, is_linked}
use Rattle.farm_model.specs.Run.{Past, Transition}
use Rattle.farm_model.specs.World.{WorldState, front_at}

-- ---- connections and what is in flight

-- the two have a connection, which one of them at least has not dropped
abbrev pub are_connected : List Direction → NodeNo → NodeNo → Bool
are_connected directions a b = list_any (goes a b) directions || list_any (goes b a) directions

-- the node opens a connection with the other one, of which it has not learned yet
abbrev pub is_opening : List Direction → NodeNo → NodeNo → Bool
is_opening directions a b = list_any (λ direction. goes b a direction && not direction.known) directions

-- a message is at this place, from 0, of those on their way from one node to the other
abbrev pub has_place : NodeNo → NodeNo → ℕ → Direction → Bool
has_place from to place direction = goes from to direction && nat_lt place (length direction.messages)

-- which knows the connection
abbrev pub is_readable : List Direction → NodeNo → NodeNo → ℕ → Bool
is_readable directions from to place = list_any (λ direction. has_place from to place direction && direction.known) directions

abbrev pub is_in_flight : List Direction → NodeNo → NodeNo → ℕ → Bool
is_in_flight directions from to place = list_any (has_place from to place) directions

-- ---- workers of a front

abbrev pub is_idle : Option Worker → Bool
is_idle None = false
is_idle (Some Idle) = true
is_idle (Some (Picked conn message)) = false
is_idle (Some (Done conn answer)) = false

-- it has picked a request, and neither charged nor refused it
abbrev pub has_picked : Option Worker → Bool
has_picked None = false
has_picked (Some Idle) = false
has_picked (Some (Picked conn message)) = true
has_picked (Some (Done conn answer)) = false

-- it holds an answer
abbrev pub is_done : Option Worker → Bool
is_done None = false
is_done (Some Idle) = false
is_done (Some (Picked conn message)) = false
is_done (Some (Done conn answer)) = true

abbrev pub is_waiting : List Job → Bool
is_waiting [] = false
is_waiting (job ∷ jobs) = true

-- the node is a front, and its worker can
abbrev pub front_can : (FrontState → Option Worker → Bool) → ℕ → Option FrontState → Bool
front_can can worker None = false
front_can can worker (Some front) = can front (slice_get front.workers worker)

-- ---- any step

abbrev pub can_apply : Site → WorldState → Step → Bool
-- the site links them, and they have no connection
can_apply site w (Up a b) = is_linked site a b && not (are_connected w.directions a b)
can_apply site w (Accept at from) = is_linked site from at && not (are_connected w.directions from at)
can_apply site w (Opened a b) = is_opening w.directions a b
-- of a client that knows its connection
can_apply site w (Send client to message) = is_client site client && knows_other w.directions client to
can_apply site w (Deliver from to place) = is_readable w.directions from to place
can_apply site w (Lose from to place) = is_in_flight w.directions from to place
-- one of the two knows it at least
can_apply site w (Cut a b) = knows_other w.directions a b || knows_other w.directions b a
-- known or not
can_apply site w (Drop a b) = list_any (goes b a) w.directions
can_apply site w (Restart node) = is_relay site node || is_front site node
can_apply site w (Crash node) = is_relay site node || is_front site node
-- by an idle worker, where a request waits
can_apply site w (Pick node worker) = front_can (λ front held. is_idle held && is_waiting front.queue) worker (front_at node w.fronts)
can_apply site w (Charge node worker moment) = front_can (λ front held. has_picked held) worker (front_at node w.fronts)
can_apply site w (Refuse node worker) = front_can (λ front held. has_picked held) worker (front_at node w.fronts)
can_apply site w (Emit node worker) = front_can (λ front held. is_done held) worker (front_at node w.fronts)
-- always: also where no session is due, and where the book is full
can_apply site w (Sweep moment) = true
-- always: also where the book refuses the change
can_apply site w (ChangeTerms moment change) = true

-- What is promised of each step: it is told as applied exactly where it can apply.
abbrev pub AppliesWhereItCan : Site → Transition → Type 0
AppliesWhereItCan site t = t.applied ≡ can_apply site t.before t.step

-- how many steps could not apply
abbrev pub could_not_apply : Site → Past → ℕ
could_not_apply site past = count_by (λ t. not (can_apply site t.before t.step)) past
