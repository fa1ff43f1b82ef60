-- By which identifiers a relay matches an answer with the request that it answers (RFC 6733, sections 3 and 6.2.1).
use Rattle.std.specs.Prelude.{ℕ, ◌+◌, ◌==◌, ◌&&◌, Bool, true, false, not, min, List, Option, Some, None, is_some, MatchBool, if◌then◌else◌}
use Rattle.dia_base.specs.declared.number.ConnId.{ConnId}
use Rattle.dia_message.specs.declared.message.Message.{Message}
use Rattle.dia_message.specs.Traffic.{Traffic}
use Rattle.relay_hops.specs.declared.row.Held.{Held}
use Rattle.relay_hops.specs.declared.row.Row.{Row}
use Rattle.relay_hops.specs.PendingTable.{held_at}
use Rattle.relay_core.specs.RelayRun.{IsIdle, OnEvent}
use Rattle.relay_core.specs.RelayState.{RelayState, peer_on}
use Rattle.relay_core.specs.declared.matching.Matching.{Matching}
use Rattle.relay_core.specs.declared.matching.Matching.TheVariants.{HopByHop, EndToEnd}
use Rattle.relay_core.specs.declared.run.RelayEvent.{RelayEvent}
use Rattle.relay_core.specs.declared.run.RelayEvent.TheVariants.{Up, Received, Lost, Restart}

-- the End-to-End Identifiers are compared
abbrev pub compares_end : Matching → Bool
compares_end HopByHop = false
compares_end EndToEnd = true

-- what is kept of a request has another End-to-End Identifier than this
abbrev pub has_other_end : ℕ → Option Held → Bool
has_other_end end None = false
has_other_end end (Some held) = not (held.request.header.end == end)

-- An answer came, and the request that is pending on its connection under its Hop-by-Hop Identifier has another End-to-End Identifier.
abbrev pub is_mismatched : List Row → ConnId → Message → Bool
is_mismatched rows conn message = not message.header.request && has_other_end message.header.end (held_at rows conn message.header.hop)

-- A relay that matches so drops the message, which came on a connection that a peer is up on.
abbrev pub is_dropped : Matching → RelayState → ConnId → Message → Bool
is_dropped matching relay conn message = compares_end matching && (is_some (peer_on relay.node conn) && is_mismatched relay.pending.rows conn message)

-- it drops what comes at this event
abbrev pub drops_at : Matching → RelayState → RelayEvent → Bool
drops_at matching relay (Up peer conn) = false
drops_at matching relay (Received conn message) = is_dropped matching relay conn message
drops_at matching relay (Lost conn) = false
drops_at matching relay Restart = false

-- What it sends at an event, and what it is afterwards: nothing and what it was, where it drops an answer; else what every relay does.
abbrev pub OnMatchedEvent : Matching → RelayState → RelayEvent → Traffic → RelayState → Type 0
OnMatchedEvent matching relay event sent next = MatchBool (drops_at matching relay event) (IsIdle relay sent next) (OnEvent relay event sent next)

-- how many answers were dropped, with this one or without; the count stays at the greatest number
abbrev pub mismatched_after : Bool → ℕ → ℕ
mismatched_after dropped count = if dropped then min (count + 1) 18446744073709551615 else count
