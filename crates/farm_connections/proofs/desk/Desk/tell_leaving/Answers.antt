use Rattle.std.proofs.Common.{◌≡◌, OnOk, Option, ap, false, is_some, refl, subst, sym, true, ◌∙◌}
use Rattle.dia_base.specs.declared.number.NodeNo.{NodeNo}
use Rattle.farm_node.specs.Events.{leaving}
use Rattle.farm_connections.specs.declared.link.Link.{Link}
use Rattle.farm_connections.specs.Desks.{mark_of}
use Rattle.farm_connections.specs.Doing.{left_for, open_peer}
use Rattle.farm_connections.proofs.Calls.{where_open, where_over}
use Rattle.farm_connections.proofs.Placing.{same_read}
use Rattle.farm_connections.proofs.Telling.{leaving_way, no_way, way_still}
use Rattle.farm_connections.proofs.Doing.{peer_up, said_at}
use Rattle.farm_connections.proofs.Untold.{sent_on}
use Rattle.farm_connections.proofs.desk.Desk.tell_leaving.Goals as goal

pub returns-in_default-clause-tells : goal.returns-in_default-clause-tells
returns-in_default-clause-tells g c = no_way _ _ refl

pub returns-in_default-clause-does : goal.returns-in_default-clause-does
returns-in_default-clause-does g c = λ link read.
    let seen = c.index-link.result.now in
    let none : is_some (open_peer seen) ≡ false = ap (λ (o : Option NodeNo). is_some o) (sym c.in_default.ensures) in
    let same = same_read c.args.self.now.links.items c.args.place seen link c.requires c.index-link.ensures read in
    where_open _ _ (open_peer link) (subst (λ (l : Link _ _). is_some (open_peer l) ≡ false) same none) refl

pub returns-clause-tells : goal.returns-clause-tells
returns-clause-tells g c =
    let links = c.args.self.now.links.items in
    let link = c.index-link.result.now in
    let same = same_read links c.args.place c.index_mut.result.now link c.requires c.index_mut.ensures.value c.index-link.ensures in
    let peer = c.in-Some.peer in
    way_still _ _ _
    (leaving_way c.args.self.now.node c.on_leaving-reaction.new.self links c.args.place link c.part_at.new.link c.args.self.now.made peer c.on_leaving-reaction.result.out.items
    c.on_leaving-reaction.result.outcome c.requires c.index-link.ensures (peer_up link.standing link.end peer c.in-Some.ensures)
    (c.part_at.ensures.mark ∙ ap (λ l. mark_of l) same) c.on_leaving-reaction.ensures)
    c.send_all.ensures.kept

pub returns-clause-does : goal.returns-clause-does
returns-clause-does g c = λ link read.
    let old = c.args.self.now in let links = old.links.items in
    let seen = c.index-link.result.now in let here = c.index_mut.result.now in
    let same = same_read links c.args.place seen link c.requires c.index-link.ensures read in
    let also = same_read links c.args.place here link c.requires c.index_mut.ensures.value read in
    let some : is_some (open_peer seen) ≡ true = ap (λ (o : Option NodeNo). is_some o) (sym c.in-Some.ensures) in
    let outcome = c.on_leaving-reaction.result.outcome in let sent = c.on_leaving-reaction.result.out.items in
    where_over _ _ (open_peer link) (subst (λ (l : Link _ _). is_some (open_peer l) ≡ true) same some)
    (said_at (left_for c.args.cause seen) (left_for c.args.cause here) (left_for c.args.cause link) c.part_at.new.link (λ l. leaving l.id) c.args.place old _ c.on_leaving-reaction.new.self _ _ sent
    outcome (ap (λ l. left_for c.args.cause l) same) (ap (λ l. left_for c.args.cause l) also) c.on_leaving-reaction.ensures c.send_all.ensures.kept c.part_at.ensures.only
    (c.part_at.ensures.refused, subst (λ l. OnOk outcome (c.part_at.new.link.end ≡ l.end)) also c.part_at.ensures.stands) c.send_all.ensures.sent
    (record { mid = old.recorder; told = refl; sends = sent_on old.recorder c.record_sent.new.recorder c.send_all.new.self.recorder sent c.record_sent.ensures c.send_all.ensures.records })
    (record { mid = old.tally; told = refl; sends = c.send_all.ensures.counts }))
