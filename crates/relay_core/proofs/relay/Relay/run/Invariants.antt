use Rattle.std.proofs.Common.{List, take}
use Rattle.relay_core.specs.Connecting.{new_relay}
use Rattle.relay_core.specs.Giving.{GiveInTurn}
use Rattle.relay_core.specs.RelayRun.{IsRun, RelayStep}
use Rattle.relay_core.proofs.relay.Relay.run.Given as goal

-- the events before the index have led here
abbrev pub invariant-loop-event : goal.invariant-loop-event
invariant-loop-event g l = (past : List RelayStep) × IsRun (new_relay l.site) (take l.event-index l.events) l.outs.items past l.relay × GiveInTurn past
