use Rattle.farm_player.specs.Reconciling.{Stays}
use Rattle.record_player.proofs.player.Player.charge_repeat_of.Given as goal

abbrev pub invariant-loop-at : goal.invariant-loop-at
invariant-loop-at l = Stays l.fn.self.links.played l.self.links.played
