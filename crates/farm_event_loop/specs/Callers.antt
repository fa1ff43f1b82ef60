-- Whether the system is to be asked for a connection that waits at a listener.
use Rattle.std.specs.Prelude.{Bool, true, false, nat_le}
use Rattle.std.specs.declared.io.ErrorKind.{ErrorKind}
use Rattle.std.specs.declared.io.ErrorKind.TheVariants.{WouldBlock, ConnectionAborted}
use Rattle.dia_base.specs.declared.number.Moment.{Moment}
use Rattle.farm_event_loop.specs.Dialing.{later}
use Rattle.farm_event_loop.specs.declared.sockets.Callers.{Callers}
use Rattle.farm_event_loop.specs.declared.sockets.Callers.TheVariants.{Nobody, MayWait, From}

-- where some may wait, at once, or from a moment on
abbrev pub may_wait : Callers → Moment → Bool
may_wait Nobody now = false
may_wait MayWait now = true
may_wait (From moment) now = nat_le moment.0 now.0

-- Who waits at a listener that has given no connection: nobody, or some behind one who has given up. Where the system has no room for one
-- more socket, it is asked again a second later.
abbrev pub callers_after : ErrorKind → Moment → Callers
callers_after WouldBlock now = Nobody
callers_after ConnectionAborted now = MayWait
callers_after _ now = From (later now 1000)
