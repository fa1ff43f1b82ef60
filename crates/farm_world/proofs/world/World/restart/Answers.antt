use Rattle.std.proofs.Common.{ap, ◌∙◌}
use Rattle.farm_model.specs.Loss.{peers_of}
use Rattle.farm_model.specs.World.{WorldState}
use Rattle.farm_world.proofs.Losing.{restart_turn}
use Rattle.farm_world.proofs.world.World.restart.Goals as goal

pub returns-clause-ok : goal.returns-clause-ok
returns-clause-ok g c =
    let peers_are = c.deref-2.ensures.value ∙ c.in_ok-peers.ensures ∙ ap (peers_of c.args.node) c.deref.ensures.value ∙ ap (λ (w : WorldState). peers_of c.args.node w.directions) c.self.view_is in
    restart_turn c.args.site.now c.args.self.now c.crash.new.self c.drop_all.new.self c.args.node c.deref-2.result.now peers_are c.if-not-crash.ensures.applied c.in_ok-drop_all.ensures.ok
