use Rattle.relay_hops.proofs.Slab.{IsMap-indexed}
use Rattle.relay_hops.proofs.pending.Pending.orphan.Goals as goal

pub returns-clause-map : goal.returns-clause-map
returns-clause-map c = IsMap-indexed c.lose_origins.new.self.slab.slots c.lose_origins.new.self.index.keys.items c.lose_origins.ensures.indexed
