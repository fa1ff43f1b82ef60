use Rattle.std.proofs.Common.{List, ap, refl}
use Rattle.farm_watch.specs.Numbering.{numbered_effect}
use Rattle.farm_watch.specs.Table.{Connection, after_close}
use Rattle.farm_connections.specs.Turns.{Mark}
use Rattle.farm_connections.proofs.Placing.{keeping, same_marks, same_read}
use Rattle.farm_connections.proofs.Doing.{lived_at, numbered_said}
use Rattle.farm_connections.proofs.desk.Desk.acts_at_close.Goals as goal

pub returns-clause-kept : goal.returns-clause-kept
returns-clause-kept g c =
    ap (λ (marks : List Mark). keeping c.args.self.now.node marks c.args.self.now.made)
    (same_marks c.args.self.now.links.items c.args.place c.index_mut.result.now c.close_at-said.new.link c.requires c.index_mut.ensures.value c.close_at-said.ensures.mark)

pub returns-clause-lived : goal.returns-clause-lived
returns-clause-lived g c = λ link read.
    let here = c.index_mut.result.now in
    let same = same_read c.args.self.now.links.items c.args.place here link c.requires c.index_mut.ensures.value read in
    let effect = after_close c.args.site.now c.args.moment here.watch in
    let says = numbered_said c.close_at-said.result c.numbered_said.result c.args.self.now.numbering c.args.moment effect _ _ c.numbered_said.ensures.acts
    c.close_at-said.ensures.acts c.close_at-said.ensures.next c.close_at-said.ensures.err in
    lived_at c.numbered_said.result
    (λ (conn : Connection). numbered_effect c.args.self.now.numbering c.args.moment (after_close c.args.site.now c.args.moment conn)) here link c.close_at-said.new.link
    c.args.place c.args.self.now _ same c.index_mut.ensures.value says.0 says.1.0 says.1.1 refl refl
