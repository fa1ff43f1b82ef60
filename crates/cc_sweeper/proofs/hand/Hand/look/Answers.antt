use Rattle.std.proofs.Common.{rules}
use Rattle.cc_sweeper.proofs.Agreeing.{takes_as}
use Rattle.cc_sweeper.proofs.hand.Hand.look.Goals as goal

pub load_as-requires : goal.load_as-requires
load_as-requires g c = (search rules, (search rules, (search rules, takes_as g.L.Sharing.shared _ _ _ c.self.invariant.1)))
