use Rattle.std.proofs.Common.{◌≡◌, length}
use Rattle.farm_connections.specs.Desks.{mark_of}
use Rattle.farm_connections.proofs.Sending.{Greeted}
use Rattle.farm_connections.proofs.desk.greet.Given as goal

abbrev pub invariant-loop-act : goal.invariant-loop-act
invariant-loop-act g l = record {
  mark : mark_of l.link ≡ mark_of l.fn.link;
  greeted : Greeted l.fn.link l.fn.acts l.acts l.link;
}

abbrev pub decreases-loop-act : goal.decreases-loop-act
decreases-loop-act g l = length l.acts
