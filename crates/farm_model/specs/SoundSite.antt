-- What of a site the promise of its runs rests on.
use Rattle.std.specs.Prelude.{◌≡◌, true}
use Rattle.std.specs.List.{list_all}
use Rattle.farm_base.specs.declared.site.Site.{Site}
use Rattle.farm_base.specs.CheckedSite.{is_sound_link, is_sound_name, is_sound_route}

-- Names are identities, links are between two nodes of the site, of which one at most is a client and one at most a front, and
-- routes are of relays, to nodes that they are linked with. How many workers a front has, how many requests wait at it, and how
-- long tables are makes no difference.
pub record IsSound (site : Site) : Type 0 where
  pub sound_names : list_all is_sound_name site.nodes ≡ true
  pub sound_links : list_all (is_sound_link site) site.links ≡ true
  pub sound_routes : list_all (is_sound_route site) site.routes ≡ true
