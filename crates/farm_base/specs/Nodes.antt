-- Nodes and links of a site.
use Rattle.std.specs.Prelude.{ℕ, List, [], Bool, true, false, ◌&&◌, ◌||◌, ◌==◌, Option, Some, None, slice_get}
use Rattle.std.specs.List.{list_any}
use Rattle.dia_base.specs.declared.number.NodeNo.{NodeNo}
use Rattle.farm_base.specs.declared.site.Link.{Link}
use Rattle.farm_base.specs.declared.site.Node.{Node}
use Rattle.dia_base.specs.declared.node.NodeKind.{NodeKind}
use Rattle.dia_base.specs.declared.node.NodeKind.TheVariants.{Relay, Front, Client}
use Rattle.farm_base.specs.declared.site.Site.{Site}

abbrev pub is_node : NodeNo → NodeNo → Bool
is_node a b = a.0 == b.0

-- ---- what a node is

abbrev pub kind_in : Option Node → Option NodeKind
kind_in None = None
kind_in (Some node) = Some node.kind

abbrev pub kind_at : Site → NodeNo → Option NodeKind
kind_at site node = kind_in (slice_get site.nodes node.0)

abbrev pub means_client : Option NodeKind → Bool
means_client (Some Client) = true
means_client (Some Front) = false
means_client (Some Relay) = false
means_client None = false

abbrev pub means_front : Option NodeKind → Bool
means_front (Some Front) = true
means_front (Some Client) = false
means_front (Some Relay) = false
means_front None = false

abbrev pub means_relay : Option NodeKind → Bool
means_relay (Some Relay) = true
means_relay (Some Front) = false
means_relay (Some Client) = false
means_relay None = false

abbrev pub is_client : Site → NodeNo → Bool
is_client site node = means_client (kind_at site node)

abbrev pub is_front : Site → NodeNo → Bool
is_front site node = means_front (kind_at site node)

abbrev pub is_relay : Site → NodeNo → Bool
is_relay site node = means_relay (kind_at site node)

-- ---- how a node is called

abbrev pub name_in : Option Node → List ℕ
name_in None = []
name_in (Some node) = node.name

-- nothing, where the site has no such node
abbrev pub name_at : Site → NodeNo → List ℕ
name_at site node = name_in (slice_get site.nodes node.0)

-- ---- which nodes are linked, in either direction

abbrev pub joins : NodeNo → NodeNo → Link → Bool
joins a b link = (is_node link.from a && is_node link.to b) || (is_node link.from b && is_node link.to a)

abbrev pub is_linked : Site → NodeNo → NodeNo → Bool
is_linked site a b = list_any (joins a b) site.links
