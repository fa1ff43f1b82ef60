use Rattle.std.proofs.Common.{◌≡◌, List, [], ◌∷◌, ◌++◌, ap, rules, ◌∙◌}
use Rattle.std.proofs.lemmas.List.{map-append}
use Rattle.farm_connections.specs.declared.link.Link.{Link}
use Rattle.farm_connections.specs.Desks.{mark_of, marks_of}
use Rattle.farm_connections.proofs.Placing.{keeping}
use Rattle.farm_connections.proofs.Telling.{made_way, way_still}
use Rattle.farm_connections.proofs.desk.Desk.put.Goals as goal

pub returns-clause-tells : goal.returns-clause-tells
returns-clause-tells g c =
    let is : c.push_reserved.new.self.items ≡ c.args.self.now.links.items ++ c.args.link ∷ [] = search rules in
    way_still _ _ _
    (made_way c.args.self.now.node c.args.self.now.links.items c.args.link c.args.self.now.made c.requires.number c.requires.waits)
    (ap (λ (links : List (Link _ _)). keeping c.args.self.now.node (marks_of links) c.args.link.id.0) is)

pub returns-clause-made : goal.returns-clause-made
returns-clause-made g c =
    let is : c.push_reserved.new.self.items ≡ c.args.self.now.links.items ++ c.args.link ∷ [] = search rules in
    ap (λ (links : List (Link _ _)). marks_of links) is ∙ map-append mark_of c.args.self.now.links.items (c.args.link ∷ [])
