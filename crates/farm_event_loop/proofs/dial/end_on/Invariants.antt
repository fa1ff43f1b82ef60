use Rattle.std.proofs.Common.{◌≡◌, ◌++◌, map, take, drop}
use Rattle.farm_event_loop.specs.Dialing.{ended_on}
use Rattle.farm_event_loop.proofs.dial.end_on.Given as goal

abbrev pub invariant-loop-dial : goal.invariant-loop-dial
invariant-loop-dial l =
    l.dials ≡ map (ended_on l.conn l.moment l.wait) (take l.dial-index l.initial.dials) ++ drop l.dial-index l.initial.dials
