use Rattle.std.proofs.Common.{◌≡◌, drop}
use Rattle.relay_core.specs.NextHop.{first_conn}
use Rattle.relay_core.specs.Outgoing.{drawn}
use Rattle.relay_core.specs.Routing.{node_for}
use Rattle.relay_core.proofs.deciding.first_conn.Given as goal

-- none of the peers before the index is up and not passed over
abbrev pub invariant-loop-peer : goal.invariant-loop-peer
invariant-loop-peer l =
    first_conn (node_for l.routing) (drawn l.going) l.candidates ≡ first_conn (node_for l.routing) (drawn l.going) (drop l.peer-index l.candidates)
