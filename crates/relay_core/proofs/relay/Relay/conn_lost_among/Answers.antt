use Rattle.std.proofs.Common.{List, sym, subst}
use Rattle.relay_peers.specs.declared.peers.Link.{Link}
use Rattle.relay_core.specs.RelayState.{RelayState}
use Rattle.relay_core.specs.Failover.{after_end}
use Rattle.relay_core.specs.FailoverPlan.{IsFailoverPlan}
use Rattle.relay_core.specs.Staying.{OnConnLostAmong, node_among}
use Rattle.relay_hops.specs.PendingTable.{PendingTable}
use Rattle.relay_core.specs.Giving.{SendsAgain}
use Rattle.relay_core.proofs.Cases.{state}
use Rattle.relay_core.proofs.Giving.{again-behind, none-orphaned}
use Rattle.relay_core.proofs.Reaching.{none_on}
use Rattle.relay_core.proofs.Losing.{conn_lost-among}
use Rattle.relay_core.proofs.relay.Relay.conn_lost_among.Goals as goal
use Rattle.relay_core.proofs.relay.Relay.conn_lost_among.Given.{Over}

-- the plan is one for what is pending where the connection is given up
planned : (g : Over) (c : goal.After-fail_over g)
    → IsFailoverPlan (after_end c.args.lost (node_among c.links_among.result.now c.self.inside.node)) c.args.lost c.orphan.new.self.rows c.in_ok-plan.plan.items
planned g c =
    let node = after_end c.args.lost (node_among c.links_among.result.now c.self.inside.node) in
    subst (λ (t : PendingTable). IsFailoverPlan node c.args.lost t.rows c.in_ok-plan.plan.items) (sym c.orphan.ensures.rows) c.in_ok-plan.ensures

pub returns-clause-ok : goal.returns-clause-ok
returns-clause-ok g c =
    let staying = c.links_among.result.now in
    let node = c.self.inside.node in
    let routing = after_end c.args.lost (node_among staying node) in
    let none = none_on staying c.args.lost in
    let new = state (record node { peers = c.down.new.self }) c.fail_over.new.pending in
    rw (← c.self.view_is)
    (subst (λ (links : List Link). OnConnLostAmong links (state node c.self.inside.pending) c.args.lost c.fail_over.result.items new) c.links_among.ensures
    (conn_lost-among staying node c.self.inside.pending c.orphan.new.self c.fail_over.new.pending c.down.new.self c.args.lost c.fail_over.result.items
    c.down.ensures.links c.orphan.ensures.rows
    (c.fail_over.ensures.ok routing none (planned g c))
    c.fail_over.ensures.limit
    (c.fail_over.ensures.again routing none (planned g c)).none.next))

pub returns-clause-again : goal.returns-clause-again
returns-clause-again g c =
    let staying = c.links_among.result.now in
    let routing = after_end c.args.lost (node_among staying c.self.inside.node) in
    let again = c.fail_over.ensures.again routing (none_on staying c.args.lost) (planned g c) in
    subst (λ (r : RelayState). SendsAgain r.pending c.fail_over.result.items c.fail_over.new.pending) c.self.view_is
    (again-behind c.self.inside.pending c.orphan.new.self c.fail_over.new.pending c.fail_over.result.items
    (none-orphaned c.self.inside.pending c.orphan.new.self c.args.lost c.orphan.ensures.rows) again)
