-- Whether more is to be read of a socket, by what the last call told.
use Rattle.std.specs.Prelude.{ℕ, Bool, true, false, ◌&&◌, nat_lt, Result, Ok, Err, if◌then◌else◌}
use Rattle.std.specs.declared.io.Error.{Error}
use Rattle.std.specs.declared.io.ErrorKind.{ErrorKind}
use Rattle.std.specs.declared.io.ErrorKind.TheVariants.{WouldBlock}
use Rattle.std.specs.IoError.{error_kind}
use Rattle.farm_event_loop.specs.declared.half.Drain.{Drain}
use Rattle.farm_event_loop.specs.declared.half.Drain.TheVariants.{More, Short, Guessed, Empty}

abbrev pub drain_of : ErrorKind → Drain
drain_of WouldBlock = Empty
drain_of _ = More

-- A call that gave less than there was room for has taken all that was there. One that would have waited tells so.
abbrev pub drain_after : Result ℕ Error → ℕ → Drain
drain_after (Ok count) most = if nat_lt 0 count && nat_lt count most then Short else More
drain_after (Err error) most = drain_of (error_kind error)

-- The end of a stream is reported once, and read behind all else.
abbrev pub may_have_more : Drain → Bool → Bool
may_have_more More closes = true
may_have_more Short closes = true
may_have_more Guessed closes = closes
may_have_more Empty closes = false
