use Rattle.std.proofs.Common.{List, ap, refl}
use Rattle.farm_connections.specs.Sending.{HasFlushed}
use Rattle.farm_connections.specs.Turns.{Mark}
use Rattle.farm_connections.proofs.Doing.{becomes_at}
use Rattle.farm_connections.proofs.Placing.{keeping, same_marks, same_read}
use Rattle.farm_connections.proofs.desk.Desk.flush_here.Goals as goal

pub returns-clause-kept : goal.returns-clause-kept
returns-clause-kept g c =
    ap (λ (marks : List Mark). keeping c.args.self.now.node marks c.args.self.now.made)
    (same_marks c.args.self.now.links.items c.args.place c.index_mut.result.now c.flush_at.new.link c.requires c.index_mut.ensures.value c.flush_at.ensures.mark)

pub returns-clause-writes : goal.returns-clause-writes
returns-clause-writes g c = λ link read.
    let here = c.index_mut.result.now in
    let same = same_read c.args.self.now.links.items c.args.place here link c.requires c.index_mut.ensures.value read in
    becomes_at (λ old next. HasFlushed old next) here link c.flush_at.new.link c.args.place c.args.self.now _ same c.flush_at.ensures.only refl refl
