use Rattle.std.proofs.Common.{◌≡◌, List, rules, subst}
use Rattle.farm_connections.specs.Calls.{AllClose}
use Rattle.farm_connections.specs.declared.local.LocalNode.{LocalNode}
use Rattle.farm_connections.proofs.Telling.{way_then}
use Rattle.farm_connections.proofs.serving.Serving.close_all.Goals as goal

pub returns-clause-tells : goal.returns-clause-tells
returns-clause-tells g c = way_then c.close_all.ensures.tells c.settle.ensures.tells

pub returns-clause-closes : goal.returns-clause-closes
returns-clause-closes g c =
    let old = c.args.self.now in
    let seen : c.deref.result.now ≡ old.locals.items = search rules in
    record {
      mid = c.close_all.new.self;
      does = subst (λ (locals : List LocalNode). AllClose g.N.Node.on_event locals c.args.moment old.desk c.close_all.new.self) seen c.close_all.ensures.each;
      settles = c.settle.ensures.settles;
    }
