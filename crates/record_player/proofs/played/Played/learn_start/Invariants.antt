use Rattle.farm_player.specs.Reconciling.{Stays}
use Rattle.record_player.proofs.played.Played.learn_start.Given as goal

abbrev pub invariant-loop-message : goal.invariant-loop-message
invariant-loop-message l = Stays l.fn.self l.self-inside.farm
