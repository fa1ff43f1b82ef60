-- The peers and the routes that a relay is set up with are those that the site gives it.
use Rattle.std.proofs.Common.{◌≡◌, ℕ, ◌+◌, Bool, true, false, cond, List, [], ◌∷◌, ◌++◌, map, inl, inr, refl}
use Rattle.std.specs.Prelude.{◌&&◌, filter}
use Rattle.std.proofs.lemmas.Bool.{and_from, and_parts, both_ways, or_cases, or_left, or_right}
use Rattle.dia_base.specs.declared.number.NodeNo.{NodeNo}
use Rattle.dia_base.proofs.Finding.{found_passes}
use Rattle.farm_base.specs.declared.site.Link.{Link}
use Rattle.farm_base.specs.declared.site.Node.{Node}
use Rattle.farm_base.specs.declared.site.Route.{Route}
use Rattle.farm_base.specs.declared.site.Site.{Site}
use Rattle.farm_base.specs.Nodes.{is_node, joins, is_linked}
use Rattle.farm_model.specs.Run.{peer_if, peers_from, route_of, routes_at}
use Rattle.farm_model.specs.SetUp.{AreLinked, ArePeers, no_peers, linked, not_linked, AreRoutes, no_routes, its_own, of_another}
use Rattle.farm_model.proofs.Lists.Among.{Contains-has, Has-contained}
use Rattle.farm_model.proofs.Lists.Finding.{any_found, any_has, Has-found}
use Rattle.farm_model.proofs.Lists.Numbering.{same_node, is_same_node}

-- ---- links

ends_of_link : (a b : NodeNo) (link : Link) → (is_node link.from a && is_node link.to b) ≡ true → (link.from ≡ a) × (link.to ≡ b)
ends_of_link a b link e = let parts = and_parts (is_node link.from a) (is_node link.to b) e in (same_node link.from a parts.0, same_node link.to b parts.1)

are_linked : (site : Site) (a b : NodeNo) → is_linked site a b ≡ true → AreLinked site a b
are_linked site a b e =
    let found = any_found (joins a b) site.links e in
    let link = found.0 in
    record {
      link = link;
      among = Contains-has (Has-found (joins a b) site.links found.1);
      between =
          elim (or_cases (is_node link.from a && is_node link.to b) (is_node link.from b && is_node link.to a)
          (found_passes (joins a b) site.links link found.1)) [
            | inl one ↦ inl (ends_of_link a b link one)
            | inr two ↦ inr (ends_of_link b a link two)
          ];
    }

link_ends : (a b : NodeNo) (link : Link) → link.from ≡ a → link.to ≡ b → (is_node link.from a && is_node link.to b) ≡ true
link_ends a b link from to = and_from (is_node link.from a) (is_node link.to b) (is_same_node link.from a from) (is_same_node link.to b to)

is_linked_by : (site : Site) (a b : NodeNo) → AreLinked site a b → is_linked site a b ≡ true
is_linked_by site a b l =
    let link = l.link in
    any_has (joins a b) (Has-contained l.among) (elim l.between [
      | inl one ↦ or_left (is_node link.from a && is_node link.to b) (is_node link.from b && is_node link.to a) (link_ends a b link one.0 one.1)
      | inr two ↦ or_right (is_node link.from a && is_node link.to b) (is_node link.from b && is_node link.to a) (link_ends b a link two.0 two.1)
    ])

-- ---- peers

pub peers_are : (site : Site) (at : NodeNo) (number : ℕ) (nodes : List Node) → ArePeers site at number nodes (peers_from site at number nodes)
peers_are site at number [] = no_peers number
peers_are site at number (node ∷ nodes) = go (is_linked site at (record { 0 = number })) refl (peers_are site at (number + 1) nodes)
  where
    go : (b : Bool) → is_linked site at (record { 0 = number }) ≡ b → ArePeers site at (number + 1) nodes (peers_from site at (number + 1) nodes)
        → ArePeers site at number (node ∷ nodes) (peer_if b number node ++ peers_from site at (number + 1) nodes)
    go true e rest =
        linked number node nodes (record {
          peer =
              record { 0 = number };
          name = node.name;
          kind = node.kind;
        }) (peers_from site at (number + 1) nodes)
        (are_linked site at (record { 0 = number }) e) refl refl refl rest
    go false e rest =
        not_linked number node nodes (peers_from site at (number + 1) nodes)
        (λ l. both_ways (is_linked site at (record { 0 = number })) e (is_linked_by site at (record { 0 = number }) l)) rest

-- ---- routes

pub routes_are : (at : NodeNo) (routes : List Route) → AreRoutes at routes (routes_at routes at)
routes_are at [] = no_routes
routes_are at (route ∷ routes) = go (is_node route.at at) refl (routes_are at routes)
  where
    go : (b : Bool) → is_node route.at at ≡ b → AreRoutes at routes (routes_at routes at)
        → AreRoutes at (route ∷ routes)
        (map route_of (cond b (route ∷ filter (λ (r : Route). is_node r.at at) routes) (filter (λ (r : Route). is_node r.at at) routes)))
    go true e rest = its_own route routes (route_of route) (routes_at routes at) (same_node route.at at e) refl refl refl rest
    go false e rest = of_another route routes (routes_at routes at) (λ same. both_ways (is_node route.at at) e (is_same_node route.at at same)) rest
