use Rattle.std.proofs.Common.{◌∙◌}
use Rattle.slab.proofs.DrainLemmas.{length-values}
use Rattle.relay_hops.proofs.places.Places.count.Goals as goal

pub returns-clause-rows : goal.returns-clause-rows
returns-clause-rows c = c.len.ensures ∙ length-values c.args.self.now.slab.slots
