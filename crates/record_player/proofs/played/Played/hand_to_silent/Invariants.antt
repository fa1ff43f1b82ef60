use Rattle.farm_player.specs.Reconciling.{Stays}
use Rattle.record_player.proofs.played.Played.hand_to_silent.Given as goal

abbrev pub invariant-loop : goal.invariant-loop
invariant-loop l = Stays l.fn.self l.self
