use Rattle.std.proofs.Common.{◌≡◌, is_some, refl, subst, sym, true, ◌∙◌}
use Rattle.farm_connections.specs.declared.link.Link.{Link}
use Rattle.farm_connections.proofs.Locals.{site_there}
use Rattle.farm_connections.proofs.Placing.{same_read}
use Rattle.farm_connections.proofs.Telling.{no_way, way_then}
use Rattle.farm_connections.specs.Doing.{is_gone, is_nowhere, lives, rests}
use Rattle.farm_connections.proofs.Doing.{lives_so}
use Rattle.farm_connections.proofs.desk.Desk.tick_one.Goals as goal

pub returns-then-is_some-clause-tells : goal.returns-then-is_some-clause-tells
returns-then-is_some-clause-tells g c = no_way _ _ refl

pub returns-in_default-clause-tells : goal.returns-in_default-clause-tells
returns-in_default-clause-tells g c = no_way _ _ refl

pub returns-in-Ok-clause-tells : goal.returns-in-Ok-clause-tells
returns-in-Ok-clause-tells g c = way_then (no_way _ _ c.acts_at_tick.ensures.kept) c.perform.ensures.tells

pub returns-in-Err-clause-tells : goal.returns-in-Err-clause-tells
returns-in-Err-clause-tells g c = no_way _ _ c.acts_at_tick.ensures.kept

pub returns-then-is_some-clause-ticks : goal.returns-then-is_some-clause-ticks
returns-then-is_some-clause-ticks g c = λ link read.
    let same = same_read c.args.self.now.links.items c.args.place c.index-link.result.now link c.requires c.index-link.ensures read in
    is_gone (subst (λ (l : Link _ _). is_some l.end ≡ true) same (sym c.is_some.ensures ∙ c.if-is_some.true)) (record { account_is = refl; links_are = refl })

pub returns-in_default-clause-ticks : goal.returns-in_default-clause-ticks
returns-in_default-clause-ticks g c = λ link read.
    let same = same_read c.args.self.now.links.items c.args.place c.index-link.result.now link c.requires c.index-link.ensures read in
    is_nowhere (site_there c.index-link.result.now link c.args.locals.now _ same c.in_default.ensures) (record { account_is = refl; links_are = refl })

pub returns-in-Ok-clause-ticks : goal.returns-in-Ok-clause-ticks
returns-in-Ok-clause-ticks g c = λ link read.
    let same = same_read c.args.self.now.links.items c.args.place c.index-link.result.now link c.requires c.index-link.ensures read in
    lives _ (site_there c.index-link.result.now link c.args.locals.now _ same c.in-Some.ensures) (lives_so _ _ _ _ _ _ _ (c.in-Ok.ensures.lived link read) c.perform.ensures.performs)

pub returns-in-Err-clause-ticks : goal.returns-in-Err-clause-ticks
returns-in-Err-clause-ticks g c = λ link read.
    let same = same_read c.args.self.now.links.items c.args.place c.index-link.result.now link c.requires c.index-link.ensures read in
    rests _ (site_there c.index-link.result.now link c.args.locals.now _ same c.in-Some.ensures) (c.in-Err.ensures.lived link read)
