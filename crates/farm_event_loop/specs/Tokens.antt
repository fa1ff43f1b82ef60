-- Under which token the system reports of a source, and which source a report is of.
use Rattle.std.specs.Prelude.{◌≡◌, ◌<◌, ◌+◌, ◌-◌, ℕ, ⊤}
use Rattle.farm_event_loop.specs.declared.sockets.Source.{Source}
use Rattle.farm_event_loop.specs.declared.sockets.Source.TheVariants.{Waker, Listener, Conn}

-- of the waker 0, of a connection its number, and of listeners the greatest numbers that there are, from the last one down
abbrev pub token_for : Source → ℕ
token_for Waker = 0
token_for (Listener place) = 18446744073709551615 - place
token_for (Conn conn) = conn.0

-- What reports are of, with so many listeners. Connections are numbered from 1, and reach no token of a listener.
abbrev pub IsSource : ℕ → Source → Type 0
IsSource listeners Waker = ⊤
IsSource listeners (Listener place) = place < listeners
IsSource listeners (Conn conn) = (0 < conn.0) × (conn.0 + listeners < 18446744073709551616)

-- a report under this token is taken for one of the source that has it
abbrev pub IsOf : ℕ → ℕ → Source → Type 0
IsOf listeners token taken = (source : Source) → IsSource listeners source → token_for source ≡ token → taken ≡ source
