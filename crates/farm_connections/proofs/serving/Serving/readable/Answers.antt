use Rattle.std.proofs.Common.{◌≡◌, List, rules, subst}
use Rattle.farm_connections.specs.Calls.{BringsOn}
use Rattle.farm_connections.specs.declared.local.LocalNode.{LocalNode}
use Rattle.farm_connections.proofs.Telling.{way_then}
use Rattle.farm_connections.proofs.serving.Serving.readable.Goals as goal

pub returns-clause-tells : goal.returns-clause-tells
returns-clause-tells g c = way_then c.receive_on.ensures.tells c.settle.ensures.tells

pub returns-clause-brings : goal.returns-clause-brings
returns-clause-brings g c =
    let old = c.args.self.now in
    let seen : c.deref.result.now ≡ old.locals.items = search rules in
    record {
      mid = c.receive_on.new.self;
      does = subst (λ (locals : List LocalNode). BringsOn g.N.Node.on_event g.R.Read.remaining locals c.args.most c.args.moment c.args.conn old.desk c.receive_on.new.self) seen
          c.receive_on.ensures.brings;
      settles = c.settle.ensures.settles;
    }
