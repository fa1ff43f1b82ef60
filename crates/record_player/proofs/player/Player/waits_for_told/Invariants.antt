use Rattle.farm_player.specs.Reconciling.{Stays}
use Rattle.record_player.proofs.player.Player.waits_for_told.Given as goal

abbrev pub invariant-loop : goal.invariant-loop
invariant-loop l = Stays l.fn.self.links.played l.self.links.played
