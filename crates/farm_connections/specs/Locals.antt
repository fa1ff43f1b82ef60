-- The nodes that are served here.
use Rattle.std.specs.Prelude.{◌==◌, List, Option}
use Rattle.std.specs.List.{find}
use Rattle.std.specs.Option.{option_map}
use Rattle.dia_base.specs.declared.number.NodeNo.{NodeNo}
use Rattle.farm_watch.specs.declared.site.WatchSite.{WatchSite}
use Rattle.farm_connections.specs.declared.local.LocalNode.{LocalNode}

-- what the connections of a node know of it, if it is served here
abbrev pub site_at : NodeNo → List LocalNode → Option WatchSite
site_at node locals = option_map (λ (local : LocalNode). local.site) (find (λ (local : LocalNode). local.node.0 == node.0) locals)
