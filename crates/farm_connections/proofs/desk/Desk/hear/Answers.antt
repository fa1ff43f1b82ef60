use Rattle.std.proofs.Common.{◌≡◌, List, ap, get_or, is_some, refl, subst, sym, true, ◌∙◌}
use Rattle.farm_connections.specs.declared.link.Link.{Link}
use Rattle.farm_connections.proofs.Telling.{no_way}
use Rattle.farm_connections.specs.Doing.{breaks, hears, is_deaf}
use Rattle.farm_connections.proofs.Doing.{lives_so}
use Rattle.farm_connections.proofs.Placing.{same_read}
use Rattle.farm_connections.proofs.desk.Desk.hear.Goals as goal

pub returns-then-is_some-clause-tells : goal.returns-then-is_some-clause-tells
returns-then-is_some-clause-tells g c = no_way _ _ refl

pub returns-in-Err-clause-tells : goal.returns-in-Err-clause-tells
returns-in-Err-clause-tells g c = no_way _ _ (c.end_here.ensures.kept ∙ c.acts_at_message.ensures.kept)

pub returns-then-is_some-clause-hears : goal.returns-then-is_some-clause-hears
returns-then-is_some-clause-hears g c = λ link read.
    let same = same_read c.args.self.now.links.items c.args.place c.index-link.result.now link c.requires c.index-link.ensures read in
    is_deaf (subst (λ (l : Link _ _). is_some l.end ≡ true) same (sym c.is_some.ensures ∙ c.if-is_some.true)) (record { account_is = refl; links_are = refl })

pub returns-in-Ok-clause-hears : goal.returns-in-Ok-clause-hears
returns-in-Ok-clause-hears g c = λ link read.
    let heard = c.in-Ok.ensures.heard link read in
    hears heard.0 heard.1 heard.2 heard.3 (lives_so _ _ _ _ _ _ _ heard.4 c.perform.ensures.performs)

pub returns-in-Err-clause-hears : goal.returns-in-Err-clause-hears
returns-in-Err-clause-hears g c = λ link read.
    let heard = c.in-Err.ensures.heard link read in
    breaks _ heard.0 c.acts_at_message.new.self heard.1 (c.end_here.ensures.reason link (read ∙ sym (ap (λ (links : List (Link _ _)). get_or links c.args.place link) heard.1.links_are)))
