-- Worked examples: a relay that is linked with two clients, another relay and a front, and their connections.
use Rattle.std.specs.Prelude.{ℕ, List, [], ◌∷◌, codes}
use Rattle.dia_base.specs.declared.number.NodeNo.{NodeNo}
use Rattle.dia_base.specs.declared.number.ConnId.{ConnId}
use Rattle.dia_base.specs.declared.node.NodeKind.TheVariants.{Client, Relay, Front}
use Rattle.relay_peers.specs.declared.peers.LinkedPeer.{LinkedPeer}
use Rattle.relay_peers.specs.declared.peers.Link.{Link}
use Rattle.relay_peers.specs.PeerTable.{with_link, without_conn}

abbrev pub node : ℕ → NodeNo
node number = record { 0 = number }

abbrev pub conn : ℕ → ConnId
conn number = record { 0 = number }

abbrev pub relay : LinkedPeer
relay = record { peer = node 1; name = codes "r2.example"; kind = Relay }

abbrev pub front : LinkedPeer
front = record { peer = node 2; name = codes "f1.example"; kind = Front }

-- the clients have the numbers 4 and 5, and nobody has 3
abbrev pub four_peers : List LinkedPeer
four_peers =
    record { peer = node 4; name = codes "c1.example"; kind = Client }
    ∷ record { peer = node 5; name = codes "c2.example"; kind = Client }
    ∷ relay ∷ front ∷ []

-- the first client is up on connection 1
abbrev pub client_up : List Link
client_up = with_link [] (node 4) (conn 1)

-- and the front on connection 2
abbrev pub front_up : List Link
front_up = with_link client_up (node 2) (conn 2)

-- then a connection ends that nobody has, and that of the client
abbrev pub client_down : List Link
client_down = without_conn (without_conn front_up (conn 3)) (conn 1)

-- and the client comes up again, on connection 3
abbrev pub client_up_again : List Link
client_up_again = with_link client_down (node 4) (conn 3)
