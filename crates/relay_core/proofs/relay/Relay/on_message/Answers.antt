use Rattle.relay_core.specs.RelayState.{peer_on}
use Rattle.relay_core.proofs.Among.{message-alone}
use Rattle.relay_core.proofs.Cases.{if_ok, if_some}
use Rattle.relay_core.proofs.relay.Relay.on_message.Goals as goal

pub returns-clause-ok : goal.returns-clause-ok
returns-clause-ok g c =
    if_some (peer_on c.args.self.now.node c.args.conn) _ _
    (λ sender answered. if_ok c.on_message_among.result _ _ (λ out step. message-alone c.args.self.now c.on_message_among.new.self c.args.conn sender.name c.args.message out.items step) answered)
    c.on_message_among.ensures.ok
