use Rattle.std.proofs.Common.{◌≤◌, length}
use Rattle.std.specs.Option.{option_copied}
use Rattle.relay_core.proofs.Walking.{IsReadSoFar}
use Rattle.relay_core.proofs.reading.read_body.Given as goal

-- the AVPs before the rest are read: the parts of the reading are its host, its realm and its records
abbrev pub invariant-loop-reading : goal.invariant-loop-reading
invariant-loop-reading l = record {
  within : length l.rest ≤ length l.body;
  read : IsReadSoFar l.body l.rest (option_copied l.reading.0) (option_copied l.reading.1.0) (option_copied l.reading.1.1.0);
}

abbrev pub decreases-loop-reading : goal.decreases-loop-reading
decreases-loop-reading l = length l.rest
