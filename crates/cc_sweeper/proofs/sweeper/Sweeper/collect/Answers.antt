use Rattle.std.proofs.Common.{rules}
use Rattle.cc_sweeper.proofs.Agreeing.{collects_as, sees_as}
use Rattle.cc_sweeper.proofs.sweeper.Sweeper.collect.Goals as goal

pub load_as-requires : goal.load_as-requires
load_as-requires g c =
    let i = c.self.invariant.1 in
    (search rules, (search rules, (search rules, sees_as g.L.Sharing.shared _ _ _ i.seen i.knows)))

pub swap_as-requires : goal.swap_as-requires
swap_as-requires g c = (search rules, (search rules, (search rules, collects_as g.L.Sharing.shared _ _ _ c.in-Done.ensures.rule.knows)))
