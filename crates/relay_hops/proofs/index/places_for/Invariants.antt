use Rattle.std.proofs.Common.{◌≡◌}
use Rattle.relay_hops.specs.Identifiers.{doubled}
use Rattle.relay_hops.proofs.index.places_for.Given as goal

abbrev pub invariant-loop-doublings : goal.invariant-loop-doublings
invariant-loop-doublings l = l.size ≡ doubled l._doublings l.wanted
