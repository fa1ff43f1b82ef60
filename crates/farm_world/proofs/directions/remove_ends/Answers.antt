use Rattle.std.proofs.Common.{rules, not, eqb}
use Rattle.std.proofs.lemmas.Fn.{filter_same}
use Rattle.farm_model.specs.declared.state.Direction.{Direction}
use Rattle.farm_world.proofs.directions.remove_ends.Goals as goal

pub returns : goal.returns
returns c = filter_same _ (λ (direction : Direction). not (eqb direction.to.0 c.args.node.0)) _ (λ x b f k. search rules) _ _ c.retain.ensures.filtered
