use Rattle.farm_player.specs.Reconciling.{Stays}
use Rattle.record_player.proofs.links.LinkPlayer.compare_all.Given as goal

abbrev pub invariant-loop-peer : goal.invariant-loop-peer
invariant-loop-peer l = Stays l.fn.self.played l.self.played
