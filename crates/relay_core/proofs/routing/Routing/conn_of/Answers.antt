use Rattle.std.proofs.Common.{rules, ◌≡◌, ◌∙◌, ap, option_map}
use Rattle.std.proofs.lemmas.Iterator.{YieldsList-from_slice}
use Rattle.std.proofs.lemmas.Iterator.Search.{find_from_yields_List}
use Rattle.std.specs.List.{find}
use Rattle.std.specs.Option.{option_copied}
use Rattle.relay_peers.specs.declared.peers.Link.{Link}
use Rattle.relay_core.specs.Routing.{stands}
use Rattle.relay_core.proofs.Routed.{conn_but}
use Rattle.relay_core.proofs.routing.Routing.conn_of.Goals as goal

pub returns : goal.returns
returns c =
    let found : option_copied c.find.result ≡ find (stands c.args.peer c.args.self.ended) c.args.self.links.now =
    find_from_yields_List (stands c.args.peer c.args.self.ended) _ _ _ c.find.ensures.ran (YieldsList-from_slice c.args.self.links.now cc) (λ x b q k. search rules) in
    let its : c.map.result ≡ option_map (λ (link : Link). link.conn) (option_copied c.find.result) = search rules in
    its ∙ ap (option_map (λ (link : Link). link.conn)) found ∙ conn_but c.args.self.ended c.args.self.links.now c.args.peer
