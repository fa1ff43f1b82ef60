use Rattle.std.proofs.Common.{◌≤◌, length}
use Rattle.dia_avp.specs.AvpList.{Begins}
use Rattle.dia_avp.proofs.plain.split.Given as goal

abbrev pub invariant-loop-rest : goal.invariant-loop-rest
invariant-loop-rest l = record { begins : Begins l.octets l.avps.items l.rest; within : length l.rest ≤ length l.octets }

abbrev pub decreases-loop-rest : goal.decreases-loop-rest
decreases-loop-rest l = length l.rest
