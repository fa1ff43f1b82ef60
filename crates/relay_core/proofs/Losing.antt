-- A connection is lost: the table of peers, that of pending requests, and the requests that go elsewhere.
use Rattle.std.proofs.Common.{◌≡◌, List, map, ap, sym, subst, ◌∙◌}
use Rattle.dia_base.specs.declared.number.ConnId.{ConnId}
use Rattle.relay_peers.specs.declared.peers.Link.{Link}
use Rattle.relay_peers.specs.PeerTable.{PeerTable, without_conn}
use Rattle.relay_hops.specs.PendingTable.{PendingTable, orphaned}
use Rattle.relay_core.specs.declared.node.RelayNode.{RelayNode}
use Rattle.relay_core.specs.Failover.{Failover, after_end, without_origins}
use Rattle.relay_core.specs.Staying.{OnConnLostAmong, node_among}
use Rattle.dia_message.specs.Traffic.{Traffic}
use Rattle.relay_core.proofs.Cases.{same_but_rows, state}

-- requests go again to those that stay
pub conn_lost-among : (staying : List Link) (node : RelayNode) (pending orphans left : PendingTable) (peers : PeerTable) (conn : ConnId) (sent : Traffic)
    → peers ≡ record node.peers { links = without_conn node.peers.links conn } → orphans ≡ record pending { rows = map (orphaned conn) pending.rows }
    → Failover (after_end conn (node_among staying node)) conn orphans.rows sent left.rows → left.limit ≡ orphans.limit → left.next ≡ orphans.next
    → OnConnLostAmong staying (state node pending) conn sent (record { node = record node { peers = peers }; pending = left })
conn_lost-among staying node pending orphans left peers conn sent down gone failover limit next =
    let here : Failover (after_end conn (node_among staying node)) conn (without_origins conn pending.rows) sent left.rows =
    subst (λ (t : PendingTable). Failover (after_end conn (node_among staying node)) conn t.rows sent left.rows) gone failover in
    subst (λ (t : PeerTable). OnConnLostAmong staying (state node pending) conn sent (record { node = record node { peers = t }; pending = left })) (sym down)
    (record {
      rows = left.rows;
      failover = here;
      after = ap (λ (t : PendingTable). record { node = after_end conn node; pending = t }) (sym (same_but_rows pending left (limit ∙ ap (λ (t : PendingTable). t.limit) gone) (next ∙ ap (λ (t : PendingTable). t.next) gone)));
    })
