use Rattle.relay_peers.proofs.Links.{conn_in-with_link}
use Rattle.relay_peers.proofs.laws.conns_after_up.Goals as goal

pub returns : goal.returns
returns c = conn_in-with_link
