use Rattle.std.proofs.Common.{◌≡◌, take}
use Rattle.relay_core.specs.Connecting.{new_relay}
use Rattle.relay_core.proofs.MatchedRuns.{LedBy}
use Rattle.relay_core.proofs.matching.MatchingRelay.run.Given as goal

-- the events before the index have led here
abbrev pub invariant-loop-event : goal.invariant-loop-event
invariant-loop-event g l = LedBy l.fn.matching (new_relay l.site) (take l.event-index l.events) l.outs.items l.relay.relay × (l.relay.matching ≡ l.fn.matching)
