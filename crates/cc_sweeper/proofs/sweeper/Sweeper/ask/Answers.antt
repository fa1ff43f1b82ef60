use Rattle.std.proofs.Common.{true, rules, ap, ◌∙◌}
use Rattle.std.specs.Prelude.{Option}
use Rattle.dia_base.specs.declared.number.Moment.{Moment}
use Rattle.cc_sweeper.specs.declared.errand.User.TheVariants.{Asker}
use Rattle.cc_sweeper.proofs.Agreeing.{asks_as}
use Rattle.cc_sweeper.proofs.sweeper.Sweeper.ask.Goals as goal

pub swap_as-requires : goal.swap_as-requires
swap_as-requires g c =
    let i = c.self.invariant.1 in
    let idle = i.knows ∙ ap (λ (asked : Option Moment). Asker true asked i.seen) (c.self.view_is ∙ c.requires) in
    (search rules, (search rules, (search rules, asks_as g.L.Sharing.shared _ _ i.seen c.args.moment idle)))
