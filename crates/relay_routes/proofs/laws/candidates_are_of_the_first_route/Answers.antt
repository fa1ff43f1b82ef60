use Rattle.relay_routes.proofs.Choosing.{chosen}
use Rattle.relay_routes.proofs.laws.candidates_are_of_the_first_route.Goals as goal

pub returns : goal.returns
returns c = chosen
