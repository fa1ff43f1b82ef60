use Rattle.std.proofs.Common.{◌≡◌, List, rules, subst}
use Rattle.farm_connections.specs.Calls.{AllTick}
use Rattle.farm_connections.specs.declared.local.LocalNode.{LocalNode}
use Rattle.farm_connections.proofs.Telling.{way_then}
use Rattle.farm_connections.proofs.serving.Serving.tick.Goals as goal

pub returns-clause-tells : goal.returns-clause-tells
returns-clause-tells g c = way_then (way_then c.tick_node.ensures.tells c.tick_all.ensures.tells) c.settle.ensures.tells

pub returns-clause-passes : goal.returns-clause-passes
returns-clause-passes g c =
    let seen : c.deref.result.now ≡ c.args.self.now.locals.items = search rules in
    let each = subst (λ (locals : List LocalNode). AllTick g.N.Node.on_event locals c.args.moment c.tick_node.new.self c.tick_all.new.self) seen c.tick_all.ensures.each in
    record {
      mid = c.tick_all.new.self;
      does = record { mid = c.tick_node.new.self; node = c.tick_node.ensures.reacts; connections = each };
      settles = c.settle.ensures.settles;
    }
