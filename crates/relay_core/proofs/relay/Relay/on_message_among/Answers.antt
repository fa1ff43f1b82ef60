use Rattle.std.proofs.Common.{sym, subst, refl, List, IfOk}
use Rattle.std.specs.Option.{option_copied}
use Rattle.relay_peers.specs.declared.peers.Link.{Link}
use Rattle.relay_peers.specs.declared.peers.LinkedPeer.{LinkedPeer}
use Rattle.relay_peers.specs.PeerTable.{links_among}
use Rattle.relay_core.specs.RelayState.{peer_on}
use Rattle.relay_core.specs.Staying.{OnMessageAmong}
use Rattle.relay_core.proofs.Cases.{state, at_true, at_false, if_ok, to_some}
use Rattle.relay_core.proofs.Giving.{one-answered}
use Rattle.relay_core.proofs.relay.Relay.on_message_among.Goals as goal

pub returns-then-message-clause-ok : goal.returns-then-message-clause-ok
returns-then-message-clause-ok g c =
    let node = c.self.inside.node in
    let old = state node c.self.inside.pending in
    let new = state node c.on_request.new.pending in
    rw (← c.self.view_is)
    (to_some (peer_on node c.args.conn) c.in-Some.sender.now
    (λ (sender : LinkedPeer). IfOk c.on_request.result (λ out. OnMessageAmong (links_among (option_copied c.args.staying) node.peers.links) old c.args.conn sender.name c.args.message out.items new))
    (sym c.in-Some.ensures)
    (subst (λ (links : List Link). IfOk c.on_request.result (λ out. OnMessageAmong links old c.args.conn c.in-Some.sender.now.name c.args.message out.items new)) c.links_among.ensures
    (if_ok c.on_request.result _ _ (λ out does. at_true c.args.message.header.request _ _ c.if-message.true (record { does = does; up = refl })) c.on_request.ensures.ok)))

pub returns-else-message-clause-ok : goal.returns-else-message-clause-ok
returns-else-message-clause-ok g c =
    let node = c.self.inside.node in
    rw (← c.self.view_is)
    (to_some (peer_on node c.args.conn) c.in-Some.sender.now
    (λ (sender : LinkedPeer). IfOk c.on_answer.result (λ out. OnMessageAmong (links_among (option_copied c.args.staying) node.peers.links) (state node c.self.inside.pending) c.args.conn sender.name c.args.message out.items (state node c.on_answer.new.pending)))
    (sym c.in-Some.ensures)
    (if_ok c.on_answer.result _ _ (λ out a. at_false c.args.message.header.request _ _ c.if-message.false a) (c.on_answer.ensures.ok node)))

pub returns-else-message-clause-given : goal.returns-else-message-clause-given
returns-else-message-clause-given g c =
    rw (← c.self.view_is)
    (if_ok c.on_answer.result _ _ (λ out a. one-answered a c.if-message.false) (c.on_answer.ensures.ok c.self.inside.node))
