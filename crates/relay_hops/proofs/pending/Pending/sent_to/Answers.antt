use Rattle.relay_hops.specs.PlaceTable.{rows_of}
use Rattle.relay_hops.proofs.InUse.{risen}
use Rattle.relay_hops.proofs.Slab.{IsMap-indexed}
use Rattle.relay_hops.proofs.pending.Pending.sent_to.Goals as goal

pub returns-clause-rising : goal.returns-clause-rising
returns-clause-rising c =
    (risen (λ hops. hops.items) c.hops_on.result (rows_of c.self.inside.places) c.args.conn (IsMap-indexed c.self.inside.places.slab.slots c.self.inside.places.index.keys.items c.self.invariant.in_place)
    c.hops_on.ensures.all c.hops_on.ensures.sorted).0

pub returns-clause-in_use : goal.returns-clause-in_use
returns-clause-in_use c =
    rw (← c.self.view_is)
    (risen (λ hops. hops.items) c.hops_on.result (rows_of c.self.inside.places) c.args.conn (IsMap-indexed c.self.inside.places.slab.slots c.self.inside.places.index.keys.items c.self.invariant.in_place)
    c.hops_on.ensures.all c.hops_on.ensures.sorted).1

pub returns-clause-map : goal.returns-clause-map
returns-clause-map c = rw (← c.self.view_is) (IsMap-indexed c.self.inside.places.slab.slots c.self.inside.places.index.keys.items c.self.invariant.in_place)
