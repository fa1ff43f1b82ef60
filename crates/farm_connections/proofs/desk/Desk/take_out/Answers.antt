use Rattle.std.proofs.Common.{◌≡◌, List, ap, subst, sym, rules}
use Rattle.std.specs.List.{remove}
use Rattle.farm_connections.specs.declared.link.Link.{Link}
use Rattle.farm_connections.specs.Desks.{AreSettled, marks_of}
use Rattle.farm_connections.proofs.Placing.{keeping, settled_left}
use Rattle.farm_connections.proofs.Telling.{left_way, way_still}
use Rattle.farm_connections.proofs.desk.Desk.take_out.Goals as goal

pub returns-clause-tells : goal.returns-clause-tells
returns-clause-tells g c =
    let is : c.remove.new.self.items ≡ remove c.args.self.now.links.items c.args.place = search rules in
    way_still _ _ _
    (left_way c.args.self.now.node c.args.self.now.links.items c.args.place c.args.self.now.made c.requires.within c.requires.down)
    (ap (λ (links : List (Link _ _)). keeping c.args.self.now.node (marks_of links) c.args.self.now.made) is)

pub returns-clause-settled : goal.returns-clause-settled
returns-clause-settled g c settled =
    let is : c.remove.new.self.items ≡ remove c.args.self.now.links.items c.args.place = search rules in
    subst (λ (links : List (Link _ _)). AreSettled links) (sym is) (settled_left c.args.self.now.links.items c.args.place settled)
