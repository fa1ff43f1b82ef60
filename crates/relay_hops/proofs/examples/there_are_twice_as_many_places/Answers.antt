use Rattle.std.proofs.Common.{refl}
use Rattle.relay_hops.specs.Identifiers.{places_for}
use Rattle.relay_hops.proofs.examples.there_are_twice_as_many_places.Goals as goal

pub returns : goal.returns
unfolding places_for
returns c = refl
