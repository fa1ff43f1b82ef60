use Rattle.std.proofs.Common.{ap, ◌∙◌}
use Rattle.farm_node.specs.Events.{up}
use Rattle.farm_connections.specs.Turns.{standing_as}
use Rattle.farm_connections.specs.Desks.{mark_of, standing_after}
use Rattle.farm_connections.proofs.Placing.{same_read}
use Rattle.farm_connections.proofs.Telling.{up_way, way_still}
use Rattle.farm_connections.proofs.Doing.{said_at}
use Rattle.farm_connections.proofs.Untold.{sent_on}
use Rattle.farm_connections.proofs.desk.Desk.tell_up.Goals as goal

pub returns-clause-tells : goal.returns-clause-tells
returns-clause-tells g c =
    let links = c.args.self.now.links.items in
    let link = c.index-link.result.now in
    let same = same_read links c.args.place c.index_mut.result.now link c.requires.within c.index_mut.ensures.value c.index-link.ensures in
    let outcome = c.on_up-reaction.result.outcome in
    way_still _ _ _
    (up_way c.args.self.now.node c.on_up-reaction.new.self links c.args.place link c.come_up.new.link c.args.self.now.made c.args.peer c.on_up-reaction.result.out.items outcome c.requires.within c.index-link.ensures
    (c.requires.waits link c.index-link.ensures) (c.requires.may link c.index-link.ensures)
    (c.come_up.ensures.mark ∙ ap (λ l. standing_as (mark_of l) (standing_after c.args.peer outcome)) same)
    c.on_up-reaction.ensures)
    c.send_all.ensures.kept

pub returns-clause-says : goal.returns-clause-says
returns-clause-says g c = λ link read.
    let links = c.args.self.now.links.items in
    let same = same_read links c.args.place c.index-link.result.now link c.requires.within c.index-link.ensures read in
    let also = same_read links c.args.place c.index_mut.result.now link c.requires.within c.index_mut.ensures.value read in
    let sent = c.on_up-reaction.result.out.items in
    said_at c.index-link.result.now c.index_mut.result.now link c.come_up.new.link (λ l. up l.local c.args.peer l.id) c.args.place c.args.self.now _ c.on_up-reaction.new.self _ _ sent
    c.on_up-reaction.result.outcome same also c.on_up-reaction.ensures c.send_all.ensures.kept c.come_up.ensures.only c.come_up.ensures.refused c.send_all.ensures.sent
    (record { mid = c.record_up.new.recorder; told = (c.record_up.ensures.ok, c.record_up.ensures.err); sends = sent_on c.record_up.new.recorder c.record_sent.new.recorder c.send_all.new.self.recorder sent c.record_sent.ensures c.send_all.ensures.records })
    (record { mid = c.count_up.new.tally; told = (c.count_up.ensures.ok, c.count_up.ensures.err); sends = c.send_all.ensures.counts })
