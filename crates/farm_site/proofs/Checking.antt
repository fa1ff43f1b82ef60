-- The lists of a site are those that were read.
use Rattle.std.proofs.Common.{◌≡◌, List, [], sym, subst}
use Rattle.farm_base.specs.CheckedSite.{is_sound_link, is_sound_route, same_pair, same_route}
use Rattle.farm_base.specs.declared.site.Link.{Link}
use Rattle.farm_base.specs.declared.site.Node.{Node}
use Rattle.farm_base.specs.declared.site.Route.{Route}
use Rattle.farm_base.specs.declared.site.Site.{Site}
use Rattle.farm_site.specs.Graph.{site_over}
use Rattle.farm_site.specs.Growing.{AreSound}

pub links_of_site : (site : Site) (nodes seen : List Node) (links : List Link) → site.nodes ≡ nodes → site.links ≡ links → seen ≡ nodes → AreSound (is_sound_link (site_over seen [])) same_pair links → AreSound (is_sound_link (site_over site.nodes [])) same_pair site.links
links_of_site site nodes seen links e_nodes e_links e_seen sound =
    subst (λ (ls : List Link). AreSound (is_sound_link (site_over site.nodes [])) same_pair ls) (sym e_links)
    (subst (λ (ns : List Node). AreSound (is_sound_link (site_over ns [])) same_pair links) (sym e_nodes)
    (subst (λ (ns : List Node). AreSound (is_sound_link (site_over ns [])) same_pair links) e_seen sound))

pub routes_of_site : (site : Site) (nodes seen : List Node) (links seen_links : List Link) (routes : List Route) → site.nodes ≡ nodes → site.links ≡ links → site.routes ≡ routes → seen ≡ nodes → seen_links ≡ links → AreSound (is_sound_route (site_over seen seen_links)) same_route routes → AreSound (is_sound_route (site_over site.nodes site.links)) same_route site.routes
routes_of_site site nodes seen links seen_links routes e_nodes e_links e_routes e_seen e_seen_links sound =
    subst (λ (rs : List Route). AreSound (is_sound_route (site_over site.nodes site.links)) same_route rs) (sym e_routes)
    (subst (λ (ls : List Link). AreSound (is_sound_route (site_over site.nodes ls)) same_route routes) (sym e_links)
    (subst (λ (ns : List Node). AreSound (is_sound_route (site_over ns links)) same_route routes) (sym e_nodes)
    (subst (λ (ls : List Link). AreSound (is_sound_route (site_over nodes ls)) same_route routes) e_seen_links
    (subst (λ (ns : List Node). AreSound (is_sound_route (site_over ns seen_links)) same_route routes) e_seen sound))))
