use Rattle.std.proofs.Common.{◌≡◌, List, ap, refl, rules}
use Rattle.farm_connections.specs.declared.link.Link.{Link}
use Rattle.farm_connections.specs.Desks.{marks_of}
use Rattle.farm_connections.proofs.Placing.{keeping}
use Rattle.farm_connections.proofs.Sending.{begins_here}
use Rattle.farm_connections.proofs.Telling.{no_way}
use Rattle.farm_connections.proofs.serving.Serving.add.Goals as goal

pub returns-in-Err-clause-tells : goal.returns-in-Err-clause-tells
returns-in-Err-clause-tells g c = no_way _ _ refl

pub returns-then-is_err-clause-tells : goal.returns-then-is_err-clause-tells
returns-then-is_err-clause-tells g c =
    let is : c.reserve.new.self.items ≡ c.args.self.now.desk.links.items = search rules in
    no_way _ _ (ap (λ (links : List (Link _ _)). keeping c.args.self.now.desk.node (marks_of links) c.args.self.now.desk.made) is)

pub returns-clause-begins : goal.returns-clause-begins
returns-clause-begins g c =
    let is : c.reserve.new.self.items ≡ c.args.self.now.desk.links.items = search rules in
    begins_here c.args.self.now.locals.items c.args.self.now.desk.numbering c.args.local c.args.side c.args.moment _ _ _ _ c.greet.new.link _ _ _ _ _ c.in-Ok.ensures.life
    refl c.new.ensures refl c.number-acts.ensures.acts c.greet.ensures.greets is c.put.ensures.links
