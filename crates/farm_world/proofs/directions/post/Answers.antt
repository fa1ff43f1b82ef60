use Rattle.std.proofs.Common.{sym, ap, ◌∙◌, List}
use Rattle.farm_model.specs.declared.state.Direction.{Direction}
use Rattle.farm_model.specs.World.{with_message_from}
use Rattle.farm_model.proofs.Wiring.WorldLemmas.{with_traffic_from-push}
use Rattle.farm_world.proofs.directions.post.Goals as goal

pub loop-conn-preserved : goal.loop-conn-preserved
loop-conn-preserved c =
    c.in_ok-post_one.ensures
    ∙ ap (λ (directions : List Direction). with_message_from c.args.node directions c.in-Some.conn c.in-Some.message) c.loop-conn.invariant
    ∙ sym (with_traffic_from-push c.args.node c.args.directions.now.items c.loop-conn.yielded c.in-Some.conn c.in-Some.message)
