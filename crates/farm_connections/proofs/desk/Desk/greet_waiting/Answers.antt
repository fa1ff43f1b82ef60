use Rattle.std.proofs.Common.{◌≡◌, false, refl, subst, sym, true, ◌∙◌}
use Rattle.farm_connections.specs.declared.link.Link.{Link}
use Rattle.farm_connections.specs.Desks.{mark_of}
use Rattle.farm_connections.specs.Doing.{awaits}
use Rattle.farm_connections.specs.Turns.{may_come_up}
use Rattle.farm_connections.proofs.Doing.{where_false, where_true}
use Rattle.farm_connections.proofs.Placing.{same_read}
use Rattle.farm_connections.proofs.Telling.{no_way}
use Rattle.farm_connections.proofs.desk.Desk.greet_waiting.Goals as goal

pub returns-then-not-is_waiting-clause-tells : goal.returns-then-not-is_waiting-clause-tells
returns-then-not-is_waiting-clause-tells g c = no_way _ _ refl

pub returns-then-not-is_waiting-clause-does : goal.returns-then-not-is_waiting-clause-does
returns-then-not-is_waiting-clause-does g c = λ link read.
    let same = same_read c.args.self.now.links.items c.args.place c.index-link.result.now link c.requires c.index-link.ensures read in
    where_false _ _ (awaits link) (subst (λ (l : Link _ _). awaits l ≡ false) same (sym c.is_waiting.ensures ∙ c.if-not-is_waiting.true)) refl

pub returns-then-may_come_up-clause-does : goal.returns-then-may_come_up-clause-does
returns-then-may_come_up-clause-does g c = λ link read.
    let same = same_read c.args.self.now.links.items c.args.place c.index-link.result.now link c.requires c.index-link.ensures read in
    where_true _ _ (awaits link) (subst (λ (l : Link _ _). awaits l ≡ true) same (sym c.is_waiting.ensures ∙ c.if-not-is_waiting.false))
    (where_true _ _ (may_come_up (mark_of link) c.args.peer)
    (subst (λ (l : Link _ _). may_come_up (mark_of l) c.args.peer ≡ true) same (sym c.may_come_up.ensures ∙ c.if-may_come_up.true)) (c.tell_up.ensures.says link read))

pub returns-else-may_come_up-clause-tells : goal.returns-else-may_come_up-clause-tells
returns-else-may_come_up-clause-tells g c = no_way _ _ c.end_here.ensures.kept

pub returns-else-may_come_up-clause-does : goal.returns-else-may_come_up-clause-does
returns-else-may_come_up-clause-does g c = λ link read.
    let same = same_read c.args.self.now.links.items c.args.place c.index-link.result.now link c.requires c.index-link.ensures read in
    where_true _ _ (awaits link) (subst (λ (l : Link _ _). awaits l ≡ true) same (sym c.is_waiting.ensures ∙ c.if-not-is_waiting.false))
    (where_false _ _ (may_come_up (mark_of link) c.args.peer)
    (subst (λ (l : Link _ _). may_come_up (mark_of l) c.args.peer ≡ false) same (sym c.may_come_up.ensures ∙ c.if-may_come_up.false)) (c.end_here.ensures.ended link read))
