use Rattle.std.proofs.Common.{rules}
use Rattle.relay_core.specs.Connecting.{new_relay}
use Rattle.relay_core.proofs.Keeping.{promise-kept}
use Rattle.relay_core.proofs.Rising.{rising-kept}
use Rattle.relay_core.proofs.Running.{run_begun, run_more, run_all}
use Rattle.relay_core.proofs.relay.Relay.run.Goals as goal

pub loop-event-init : goal.loop-event-init
loop-event-init g c = run_begun (new_relay c.args.site.now) c.in_ok-relay.relay c.args.events.now c.new-outs.result.items (search rules) c.new-outs.ensures.items

pub loop-event-preserved : goal.loop-event-preserved
loop-event-preserved g c =
    run_more (new_relay c.args.site.now) c.loop-event.relay c.on_event.new.relay c.args.events.now c.event-item.result c.loop-event.event-index c.loop-event.outs.items c.push.new.self.items c.in_ok-out.out
    (search rules) c.event-item.is c.loop-event.invariant c.in_ok-out.ensures.ok c.in_ok-out.ensures.given c.in_ok-push.ensures.items

pub returns-clause-run : goal.returns-clause-run
returns-clause-run g c =
    let run = run_all (new_relay c.args.site.now) c.loop-event.relay c.args.events.now c.loop-event.event-index c.loop-event.outs.items (search rules) c.loop-event.invariant in
    (run.0, c.loop-event.relay, run.1, promise-kept c.args.site.now 0 run.1, rising-kept c.args.site.now 0 run.1 run.2)
