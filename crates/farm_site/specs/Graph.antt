-- The nodes and links of a site that are read so far.
use Rattle.std.specs.Prelude.{List, [], pos}
use Rattle.farm_base.specs.declared.site.Link.{Link}
use Rattle.farm_base.specs.declared.site.Node.{Node}
use Rattle.farm_base.specs.declared.site.Site.{Site}
use Rattle.farm_site.specs.declared.graph.Graph.{Graph}

-- a site of these nodes and links, and with nothing else: what is said of nodes and links looks at no more
abbrev pub site_over : List Node → List Link → Site
site_over all_nodes all_links = record {
  realm = [];
  validity = 0;
  limit = 0;
  workers = 0;
  queue = 0;
  vendors = [];
  known = [];
  tolerate = [];
  advertise = [];
  currency = 0;
  exponent = pos 0;
  watchdog = 0;
  nodes = all_nodes;
  links = all_links;
  routes = [];
  tariffs = [];
  accounts = [];
}

abbrev pub drawn : Graph → Site
drawn graph = site_over graph.nodes.now graph.links.now
