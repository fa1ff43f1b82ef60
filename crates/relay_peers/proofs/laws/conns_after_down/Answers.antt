use Rattle.relay_peers.proofs.Links.{conn_in-without}
use Rattle.relay_peers.proofs.laws.conns_after_down.Goals as goal

pub returns : goal.returns
returns c = conn_in-without
