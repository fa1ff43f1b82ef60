use Rattle.relay_peers.proofs.Links.{peer_from_conn, conn_from_peer}
use Rattle.relay_peers.proofs.laws.each_finds_the_other.Goals as goal

pub returns : goal.returns
returns c = λ links peer conn one. (peer_from_conn links peer conn one, conn_from_peer links peer conn one)
