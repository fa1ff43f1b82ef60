use Rattle.std.proofs.Common.{◌≡◌, ◌≤◌, ◌-◌, length, drop}
use Rattle.dia_avp.specs.AvpList.{Begins}
use Rattle.dia_avp.proofs.view.cuts_of.Given as goal

abbrev pub invariant-loop-rest : goal.invariant-loop-rest
invariant-loop-rest l = record {
  begins : Begins l.buffer l.avps.items l.rest;
  within : length l.rest ≤ length l.buffer;
  there : l.rest ≡ drop (length l.buffer - length l.rest) l.buffer;
}

abbrev pub decreases-loop-rest : goal.decreases-loop-rest
decreases-loop-rest l = length l.rest
