use Rattle.std.proofs.Common.{rules, ◌≡◌, ◌==◌}
use Rattle.std.specs.Prelude.{not}
use Rattle.std.proofs.lemmas.Fn.{filter_same}
use Rattle.farm_metrics.specs.declared.peers.PeerConn.{PeerConn}
use Rattle.farm_metrics.specs.Neighbours.{without}
use Rattle.farm_metrics.proofs.peers.Peers.remove.Goals as goal

-- src/peers.rt:132:5
pub returns-clause-conns : goal.returns-clause-conns
returns-clause-conns c =
    filter_same _ (λ (up : PeerConn). not (up.conn.0 == c.args.conn.0)) _ (λ x b f k. search rules) _ _ c.retain.ensures.filtered
