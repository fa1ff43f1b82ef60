-- When a connection is made that a process makes itself, and whether it was tried.
use Rattle.std.specs.Prelude.{◌≡◌, ◌≤◌, ◌+◌, ◌*◌, ◌==◌, ◌&&◌, ◌||◌, ℕ, Bool, true, false, if◌then◌else◌, List, Option, Some, None, min}
use Rattle.std.specs.List.{list_any}
use Rattle.dia_base.specs.declared.number.ConnId.{ConnId}
use Rattle.dia_base.specs.declared.number.Moment.{Moment}
use Rattle.farm_connections.specs.declared.link.Link.{Link}
use Rattle.farm_connections.specs.declared.link.Standing.{Standing}
use Rattle.farm_connections.specs.declared.link.Standing.TheVariants.{Waiting, Up, Over}
use Rattle.farm_watch.specs.declared.cause.DisconnectCause.{DisconnectCause}
use Rattle.farm_watch.specs.declared.cause.DisconnectCause.TheVariants.{Rebooting, Busy, Unwanted}
use Rattle.farm_event_loop.specs.declared.dial.Dial.{Dial}
use Rattle.farm_event_loop.specs.declared.dial.DialState.{DialState}
use Rattle.farm_event_loop.specs.declared.dial.DialState.TheVariants.{Due, Made, Nowhere}

-- it is to be made, and this moment has come
abbrev pub IsDue : DialState → Moment → Type 0
IsDue (Due at) moment = at.0 ≤ moment.0
IsDue (Made conn) moment = ⊥
IsDue Nowhere moment = ⊥

-- so many milliseconds later; the last moment that there is, where that is behind it
abbrev pub later : Moment → ℕ → Moment
later moment interval = record { 0 = min (moment.0 + interval) 18446744073709551615 }

-- it was made, and has this number
abbrev pub is_made : ConnId → DialState → Bool
is_made conn (Due at) = false
is_made conn (Made made) = made.0 == conn.0
is_made conn Nowhere = false

-- What was made under the number of a connection that has ended is made again so many milliseconds later.
abbrev pub ended_on : ConnId → Moment → ℕ → Dial → Dial
ended_on conn moment wait dial = if is_made conn dial.state then record dial { state = Due (later moment wait); has_ended = true } else dial

-- How many milliseconds pass before a connection is made again, by why the node at its other end has said goodbye, if it has: one that
-- is busy, or wants no messages, is left alone for ten intervals of the watchdog.
abbrev pub wait_after : Option DisconnectCause → ℕ → ℕ
wait_after None interval = interval
wait_after (Some Rebooting) interval = interval
wait_after (Some Busy) interval = min (interval * 10) 4294967295
wait_after (Some Unwanted) interval = min (interval * 10) 4294967295

-- ---- what a node waits for before it listens

-- the node here was told that the one at the other end is up; a connection on which that was refused has ended
abbrev pub has_come_up : Standing → Bool
has_come_up Waiting = false
has_come_up (Up peer) = true
has_come_up (Over peer) = true

abbrev pub is_up_on : {R W : Type 0} → ConnId → Link R W → Bool
is_up_on conn link = (link.id.0 == conn.0) && has_come_up link.standing

abbrev pub is_tried_at : {R W : Type 0} → List (Link R W) → DialState → Bool
is_tried_at links (Due at) = false
is_tried_at links (Made conn) = list_any (is_up_on conn) links
is_tried_at links Nowhere = true

-- It has failed or ended once, the node at its other end has come up, or nobody knows where it is to be made. What the log is told has no part in it.
abbrev pub is_tried : {R W : Type 0} → List (Link R W) → Dial → Bool
is_tried links dial = dial.has_ended || is_tried_at links dial.state
