use Rattle.std.proofs.Common.{List, ap}
use Rattle.std.specs.Prelude.{position}
use Rattle.farm_connections.specs.Desks.{is_to_be_told}
use Rattle.farm_connections.specs.declared.link.Link.{Link}
use Rattle.farm_connections.proofs.serving.Serving.new.Goals as goal

pub returns-clause-settled : goal.returns-clause-settled
returns-clause-settled g c = ap (λ (links : List (Link _ _)). position is_to_be_told links) c.new.ensures.items
