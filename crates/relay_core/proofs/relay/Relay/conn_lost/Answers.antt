use Rattle.relay_core.proofs.Among.{lost-alone}
use Rattle.relay_core.proofs.Cases.{if_ok}
use Rattle.relay_core.proofs.relay.Relay.conn_lost.Goals as goal

pub returns-clause-ok : goal.returns-clause-ok
returns-clause-ok g c =
    if_ok c.conn_lost_among.result _ _ (λ out step. lost-alone c.args.self.now c.conn_lost_among.new.self c.args.conn out.items step) c.conn_lost_among.ensures.ok
