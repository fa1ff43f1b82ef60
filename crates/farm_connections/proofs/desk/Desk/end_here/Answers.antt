use Rattle.std.proofs.Common.{List, ap, refl}
use Rattle.farm_connections.specs.Doing.{EndsFor, HasEnded}
use Rattle.farm_connections.specs.Turns.{Mark}
use Rattle.farm_connections.proofs.Placing.{keeping, same_marks, same_read}
use Rattle.farm_connections.proofs.Doing.{becomes_at}
use Rattle.farm_connections.proofs.desk.Desk.end_here.Goals as goal

pub returns-clause-kept : goal.returns-clause-kept
returns-clause-kept g c =
    ap (λ (marks : List Mark). keeping c.args.self.now.node marks c.args.self.now.made)
    (same_marks c.args.self.now.links.items c.args.place c.index_mut.result.now c.end_at.new.link c.requires c.index_mut.ensures.value c.end_at.ensures.mark)

pub returns-clause-ended : goal.returns-clause-ended
returns-clause-ended g c = λ link read.
    let links = c.args.self.now.links.items in let here = c.index_mut.result.now in
    let same = same_read links c.args.place here link c.requires c.index_mut.ensures.value read in
    becomes_at HasEnded here link c.end_at.new.link c.args.place c.args.self.now _ same c.end_at.ensures.ended refl refl

pub returns-clause-reason : goal.returns-clause-reason
returns-clause-reason g c = λ link read.
    let links = c.args.self.now.links.items in let here = c.index_mut.result.now in
    let same = same_read links c.args.place here link c.requires c.index_mut.ensures.value read in
    becomes_at (EndsFor c.args.why c.args.moment) here link c.end_at.new.link c.args.place c.args.self.now _ same
    (record { ends = c.end_at.ensures.ended; why_is = c.end_at.ensures.reason }) refl refl
