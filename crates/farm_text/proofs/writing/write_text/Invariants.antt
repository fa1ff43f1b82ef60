use Rattle.std.proofs.Common.{◌+◌, ◌-◌, ◌≤◌, length}
use Rattle.farm_text.specs.Writing.{BeginsWithRest}
use Rattle.farm_text.proofs.writing.write_text.Given as goal

abbrev pub invariant-loop-rest : goal.invariant-loop-rest
invariant-loop-rest g l = record {
  tried : l.interrupted ≤ 1000;
  written : BeginsWithRest (g.W.Write.contents l.initial.writer) (g.W.Write.contents l.writer) l.text l.rest;
}

abbrev pub decreases-loop-rest : goal.decreases-loop-rest
decreases-loop-rest g l = length l.rest + (1000 - l.interrupted)
