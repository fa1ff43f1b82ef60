use Rattle.std.proofs.Common.{◌≡◌, List, ap, get_or, is_some, refl, subst, sym, true, ◌∙◌}
use Rattle.farm_connections.specs.declared.link.Link.{Link}
use Rattle.farm_connections.proofs.Locals.{site_there}
use Rattle.farm_connections.proofs.Placing.{same_read}
use Rattle.farm_connections.proofs.Telling.{no_way, way_then}
use Rattle.farm_connections.specs.Doing.{breaks, is_nowhere, is_over, says}
use Rattle.farm_connections.proofs.Doing.{lives_so}
use Rattle.farm_connections.proofs.desk.Desk.close_one.Goals as goal

pub returns-then-is_some-clause-tells : goal.returns-then-is_some-clause-tells
returns-then-is_some-clause-tells g c = no_way _ _ refl

pub returns-in_default-clause-tells : goal.returns-in_default-clause-tells
returns-in_default-clause-tells g c = no_way _ _ refl

pub returns-in-Ok-clause-tells : goal.returns-in-Ok-clause-tells
returns-in-Ok-clause-tells g c = way_then (no_way _ _ c.acts_at_close.ensures.kept) c.perform.ensures.tells

pub returns-in-Err-clause-tells : goal.returns-in-Err-clause-tells
returns-in-Err-clause-tells g c = no_way _ _ (c.end_here.ensures.kept ∙ c.acts_at_close.ensures.kept)

pub returns-then-is_some-clause-closes : goal.returns-then-is_some-clause-closes
returns-then-is_some-clause-closes g c = λ link read.
    let same = same_read c.args.self.now.links.items c.args.place c.index-link.result.now link c.requires c.index-link.ensures read in
    is_over (subst (λ (l : Link _ _). is_some l.end ≡ true) same (sym c.is_some.ensures ∙ c.if-is_some.true)) (record { account_is = refl; links_are = refl })

pub returns-in_default-clause-closes : goal.returns-in_default-clause-closes
returns-in_default-clause-closes g c = λ link read.
    let same = same_read c.args.self.now.links.items c.args.place c.index-link.result.now link c.requires c.index-link.ensures read in
    is_nowhere (site_there c.index-link.result.now link c.args.locals.now _ same c.in_default.ensures) (record { account_is = refl; links_are = refl })

pub returns-in-Ok-clause-closes : goal.returns-in-Ok-clause-closes
returns-in-Ok-clause-closes g c = λ link read.
    let same = same_read c.args.self.now.links.items c.args.place c.index-link.result.now link c.requires c.index-link.ensures read in
    says _ (site_there c.index-link.result.now link c.args.locals.now _ same c.in-Some.ensures) (lives_so _ _ _ _ _ _ _ (c.in-Ok.ensures.lived link read) c.perform.ensures.performs)

pub returns-in-Err-clause-closes : goal.returns-in-Err-clause-closes
returns-in-Err-clause-closes g c = λ link read.
    let same = same_read c.args.self.now.links.items c.args.place c.index-link.result.now link c.requires c.index-link.ensures read in
    let still = c.in-Err.ensures.lived link read in
    breaks _ (site_there c.index-link.result.now link c.args.locals.now _ same c.in-Some.ensures) c.acts_at_close.new.self still (c.end_here.ensures.reason link (read ∙ sym (ap (λ (links : List (Link _ _)). get_or links c.args.place link) still.links_are)))
