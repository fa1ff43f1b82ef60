use Rattle.std.proofs.Common.{rules, tests, not, eqb, ◌&&◌}
use Rattle.std.proofs.lemmas.Fn.{filter_same}
use Rattle.farm_model.specs.declared.state.Direction.{Direction}
use Rattle.farm_world.proofs.directions.remove_end.Goals as goal

pub returns : goal.returns
returns c = filter_same _ (λ (direction : Direction). not (eqb direction.to.0 c.args.node.0 && eqb direction.conn.0 c.args.conn.0)) _ (λ x b f k. search (rules, tests)) _ _ c.retain.ensures.filtered
