use Rattle.farm_connections.proofs.Sending.{GoneOut}
use Rattle.farm_connections.proofs.desk.Desk.send_all.Given as goal

abbrev pub invariant-loop-conn : goal.invariant-loop-conn
invariant-loop-conn g l = GoneOut l.fn.self l.fn.out.items l.conn-index l.self
