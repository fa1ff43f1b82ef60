use Rattle.std.proofs.Common.{ap, refl, ◌∙◌}
use Rattle.farm_node.specs.Events.{lost}
use Rattle.farm_connections.specs.declared.link.Standing.TheVariants.{Over}
use Rattle.farm_connections.specs.Turns.{Kept, standing_as}
use Rattle.farm_connections.specs.Counting.{is_silence}
use Rattle.farm_connections.specs.Desks.{mark_of, ups}
use Rattle.farm_connections.proofs.Placing.{less_at, lost_fewer, same_read}
use Rattle.farm_connections.proofs.Telling.{lost_way, way_still}
use Rattle.farm_connections.proofs.Doing.{also_failed, said_at}
use Rattle.farm_connections.proofs.Untold.{sent_on}
use Rattle.farm_connections.proofs.desk.Desk.tell_lost.Goals as goal

pub returns-clause-tells : goal.returns-clause-tells
returns-clause-tells g c =
    let links = c.args.self.now.links.items in
    let link = c.index.result.now in
    let same = same_read links c.args.place c.index_mut.result.now link c.requires.within c.index_mut.ensures.value c.index.ensures in
    way_still _ _ _
    (lost_way c.args.self.now.node c.on_lost-reaction.new.self links c.args.place link c.be_over.new.link c.args.self.now.made c.args.peer c.on_lost-reaction.result.out.items
    c.on_lost-reaction.result.outcome c.requires.within c.index.ensures (c.requires.up link c.index.ensures)
    (c.be_over.ensures.mark ∙ ap (λ l. standing_as (mark_of l) (Over c.args.peer)) same) c.on_lost-reaction.ensures)
    c.send_all.ensures.kept

pub returns-clause-fewer : goal.returns-clause-fewer
returns-clause-fewer g c =
    let links = c.args.self.now.links.items in
    let link = c.index_mut.result.now in
    let fewer =
    lost_fewer links c.args.place link c.be_over.new.link c.args.peer c.requires.within c.index_mut.ensures.value
    (c.requires.up link c.index_mut.ensures.value) c.be_over.ensures.mark in
    less_at _ _ _ _ (ap (λ (kept : Kept _). ups kept.marks) c.send_all.ensures.kept) refl fewer

pub returns-clause-says : goal.returns-clause-says
returns-clause-says g c = λ link read.
    let links = c.args.self.now.links.items in
    let same = same_read links c.args.place c.index.result.now link c.requires.within c.index.ensures read in
    let also = same_read links c.args.place c.index_mut.result.now link c.requires.within c.index_mut.ensures.value read in
    let sent = c.on_lost-reaction.result.out.items in
    said_at c.index.result.now c.index_mut.result.now link c.be_over.new.link (λ l. lost l.id) c.args.place c.args.self.now _ c.on_lost-reaction.new.self _ _ sent
    c.on_lost-reaction.result.outcome same also c.on_lost-reaction.ensures c.send_all.ensures.kept c.be_over.ensures.only (also_failed _ _ _ c.has_failed-self.ensures.now c.send_all.ensures.failed) c.send_all.ensures.sent
    (record { mid = c.record_lost.new.recorder; told = (c.record_lost.ensures.ok, c.record_lost.ensures.err); sends = sent_on c.record_lost.new.recorder c.record_sent.new.recorder c.send_all.new.self.recorder sent c.record_sent.ensures c.send_all.ensures.records })
    (record {
      mid = c.count_failovers.new.tally;
      told = record { is_silent = is_silence c.args.why; mid = c.count_lost.new.tally; loses = c.count_lost.ensures; again = c.count_failovers.ensures };
      sends = c.send_all.ensures.counts;
    })
