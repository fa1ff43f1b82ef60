use Rattle.std.proofs.Common.{rules, ap, ◌∙◌}
use Rattle.cc_sweeper.specs.declared.errand.User.TheVariants.{Hand as OfHand}
use Rattle.cc_sweeper.proofs.Agreeing.{answers_as}
use Rattle.cc_sweeper.proofs.hand.Hand.answer.Goals as goal

pub swap_as-requires : goal.swap_as-requires
swap_as-requires g c =
    let asked = c.self.invariant.1 ∙ ap OfHand (c.self.view_is ∙ c.requires.asked) in
    (search rules, (search rules, (search rules, answers_as g.L.Sharing.shared _ _ c.args.done asked c.requires.swept)))
