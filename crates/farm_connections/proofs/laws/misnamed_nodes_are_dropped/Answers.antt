use Rattle.farm_connections.specs.Naming.{is_own}
use Rattle.farm_watch.specs.PeerMessages.{kind_of}
use Rattle.farm_connections.proofs.Misnaming.{misnamed_drops}
use Rattle.farm_connections.proofs.laws.misnamed_nodes_are_dropped.Goals as goal

pub returns : goal.returns
returns g c = λ link site nodes moment m node is out.
    misnamed_drops site nodes link.watch moment m (is_own link.names) link.watch.waits (kind_of m.header) node is out
