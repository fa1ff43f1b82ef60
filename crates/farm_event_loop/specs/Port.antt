-- When the status port is looked at, and which of its connections have taken too long.
use Rattle.std.specs.Prelude.{Bool, ◌&&◌, not, nat_le, nat_lt}
use Rattle.dia_base.specs.declared.number.Moment.{Moment}
use Rattle.farm_event_loop.specs.Dialing.{later}

-- twenty milliseconds have passed since it was looked at
abbrev pub is_due : Moment → Moment → Bool
is_due looked moment = nat_le (later looked 20).0 moment.0

-- Five seconds have passed since it began. Who waits for the end of the node may wait.
abbrev pub is_overdue : Bool → Moment → Moment → Bool
is_overdue waits since moment = not waits && nat_lt (later since 5000).0 moment.0
