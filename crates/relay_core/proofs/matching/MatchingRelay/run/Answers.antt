use Rattle.std.proofs.Common.{rules, ap, subst, ◌∙◌}
use Rattle.relay_core.specs.Connecting.{new_relay}
use Rattle.relay_core.specs.AnswerMatching.{OnMatchedEvent}
use Rattle.relay_core.specs.declared.matching.Matching.{Matching}
use Rattle.relay_core.specs.declared.matching.MatchingRelay.{MatchingRelay}
use Rattle.relay_core.proofs.Keeping.{promise-kept}
use Rattle.relay_core.proofs.MatchedRuns.{as_taken, ends_matched, matched_all, matched_begun, matched_more}
use Rattle.relay_core.proofs.Rising.{rising-kept}
use Rattle.relay_core.proofs.matching.MatchingRelay.run.Goals as goal

pub loop-event-init : goal.loop-event-init
loop-event-init g c = (
  matched_begun c.args.matching (new_relay c.args.site.now) c.new-relay.result.relay c.args.events.now c.new-outs.result.items (search rules) c.new-outs.ensures.items,
  ap (λ (r : MatchingRelay). r.matching) c.new-relay.ensures,
)

pub loop-event-preserved : goal.loop-event-preserved
loop-event-preserved g c = (
  matched_more c.args.matching (new_relay c.args.site.now) c.loop-event.relay.relay c.on_event.new.self.relay c.args.events.now c.event-item.result c.loop-event.event-index c.loop-event.outs.items
      c.push.new.self.items c.in_ok-out.out (search rules) c.event-item.is c.loop-event.invariant.0
      (subst (λ (m : Matching). OnMatchedEvent m c.loop-event.relay.relay c.event-item.result c.in_ok-out.out.items c.on_event.new.self.relay) c.loop-event.invariant.1 c.in_ok-out.ensures.ok)
      c.in_ok-out.ensures.given c.in_ok-push.ensures.items,
  c.on_event.ensures.matching ∙ c.loop-event.invariant.1,
)

pub returns-clause-run : goal.returns-clause-run
returns-clause-run g c =
    let run = matched_all c.args.matching (new_relay c.args.site.now) c.loop-event.relay.relay c.args.events.now c.loop-event.event-index c.loop-event.outs.items (search rules) c.loop-event.invariant.0 in
    let taken = as_taken c.args.matching (new_relay c.args.site.now) run.1 in
    (run.0, c.loop-event.relay.relay, run.1, promise-kept c.args.site.now 0 taken.2, rising-kept c.args.site.now 0 taken.2 run.2, ends_matched c.args.site.now 0 c.args.matching run.1)
