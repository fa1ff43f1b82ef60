use Rattle.farm_player.specs.Reconciling.{Stays}
use Rattle.record_player.proofs.played.Played.crash.Given as goal

abbrev pub invariant-loop-link : goal.invariant-loop-link
invariant-loop-link l = Stays l.fn.self l.self
