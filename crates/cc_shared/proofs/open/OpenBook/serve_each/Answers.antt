use Rattle.std.proofs.Common.{◌≡◌, ◌∙◌, length}
use Rattle.std.specs.Vec.Iter.{into_iter_items}
use Rattle.cc_shared.proofs.Each.{ends_there}
use Rattle.cc_shared.proofs.open.OpenBook.serve_each.Goals as goal

pub returns : goal.returns
returns g c =
    let rest = into_iter_items c.loop-next.next-iterator in
    let none : length rest ≡ 0 = c.loop-next.invariant.count ∙ c.in-None.ensures.steps.0 in
    ends_there g.L.Sharing.shared c.args.seat.now c.args.self.now c.args.asked.items c.loop-next.seat c.loop-next.self rest c.loop-next.served.items none
    c.loop-next.invariant.so_far
