use Rattle.std.proofs.Common.{◌≤◌, length}
use Rattle.relay_routes.proofs.Loops.{IsNamedSoFar}
use Rattle.relay_routes.proofs.loop_check.loops.Given as goal

-- the AVPs before the rest were asked
abbrev pub invariant-loop-rest : goal.invariant-loop-rest
invariant-loop-rest l = record { within : length l.rest ≤ length l.octets; asked : IsNamedSoFar l.me l.octets l.rest l.named }

abbrev pub decreases-loop-rest : goal.decreases-loop-rest
decreases-loop-rest l = length l.rest
