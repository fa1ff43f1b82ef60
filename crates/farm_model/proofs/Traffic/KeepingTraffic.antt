-- Each step keeps what is promised of what is in flight, and of what clients have sent and received.
use Rattle.std.proofs.Common.{Bool, List, refl, subst}
use Rattle.std.specs.List.{find}
use Rattle.farm_base.specs.declared.site.Site.{Site}
use Rattle.farm_base.specs.declared.step.Step.{Step}
use Rattle.farm_base.specs.declared.step.Step.TheVariants.{Up, Accept, Opened, Send, Deliver, Lose, Cut, Drop}
use Rattle.farm_base.specs.declared.step.Step.TheVariants.{Restart, Crash, Pick, Charge, Refuse, Emit, Sweep, ChangeTerms}
use Rattle.farm_model.specs.SoundSite.{IsSound}
use Rattle.farm_model.specs.FarmStep.{FarmStep, flight_at, loss_at, after_pick_at, after_charge_at, after_refusal_at, after_emit_at, after_sweep_at, after_change_at}
use Rattle.farm_model.specs.InFlight.{KeepsTraffic}
use Rattle.farm_model.specs.Loss.{LossAt}
use Rattle.farm_base.specs.Nodes.{is_node}
use Rattle.farm_model.specs.Run.{Transition}
use Rattle.farm_model.specs.World.{Ends, WorldState, is_unheard, front_at}
use Rattle.farm_model.proofs.Lists.Among.{Contains-has, Has-contained}
use Rattle.farm_model.proofs.Wiring.Apart.{AreApart, goes_once}
use Rattle.farm_model.proofs.Wiring.Sides.{sides}
use Rattle.farm_model.proofs.Wiring.StandingOn.{same_goes_on}
use Rattle.farm_model.proofs.Traffic.TrafficAtEnds.{drop_carries, cut_carries, restart_carries}
use Rattle.farm_model.proofs.Traffic.TrafficOfMessages.{send_carries, send_posts, lost_carries, delivered_carries}
use Rattle.farm_model.proofs.Traffic.TrafficOfSteps.{Carries, none_grow, quiet_carries, outcome_goes_on, pick_goes_on, refuse_goes_on, emit_goes_on}
use Rattle.farm_model.proofs.Traffic.TrafficOfSteps.{charge_goes_on, accept_carries, opened_carries, up_carries, crash_carries}
use Rattle.farm_model.proofs.Wiring.Wired.{IsWired}

step_carries : {site : Site} {ends : Ends} → IsSound site → (old new : WorldState) (step : Step) (applied : Bool) (losses : List LossAt) → IsWired site ends
    old → FarmStep site old step applied losses new → AreApart (sides old.directions) → Carries site step old new
step_carries {site} checked old new (Up a b) applied losses wired made apart = up_carries site checked old new applied apart a b made.0
step_carries {site} checked old new (Accept at from) applied losses wired made apart = accept_carries site checked old new applied apart from at made.0
step_carries {site} checked old new (Opened a b) applied losses wired made apart = opened_carries site old new applied apart a b
    (find (is_unheard b a) old.directions) refl made.0
step_carries {site} {ends} checked old new (Send client to message) applied losses wired made apart = send_carries site ends old new applied wired apart client
    to message made.0
step_carries {site} checked old new (Deliver from to place) applied losses wired made apart = delivered_carries site old new applied apart from to place
    (flight_at old.directions from to place) refl made.0
step_carries {site} checked old new (Lose from to place) applied losses wired made apart = lost_carries site old new applied apart from to place
    (loss_at old.directions from to place) refl made.0
step_carries {site} {ends} checked old new (Cut a b) applied losses wired made apart = cut_carries site ends old new losses wired apart a b applied made
step_carries {site} {ends} checked old new (Drop a b) applied losses wired made apart = drop_carries site ends old new applied losses wired apart a b made
step_carries {site} {ends} checked old new (Restart node) applied losses wired made apart = restart_carries site ends old new losses wired apart node applied
    made
step_carries {site} checked old new (Crash node) applied losses wired made apart = crash_carries site old new applied apart node made.0
step_carries checked old new (Pick node worker) applied losses wired made apart =
    quiet_carries none_grow (record { leaves = λ _. refl; may_grow = λ _. refl; knows = λ _. refl; ends = λ _ _. refl; receives = λ _. refl })
    apart refl (outcome_goes_on none_grow old (after_pick_at old node worker (front_at node old.fronts)) applied new
    (pick_goes_on none_grow old node worker (front_at node old.fronts)) made.0)
step_carries checked old new (Charge node worker moment) applied losses wired made apart =
    quiet_carries none_grow (record { leaves = λ _. refl; may_grow = λ _. refl; knows = λ _. refl; ends = λ _ _. refl; receives = λ _. refl })
    apart refl (outcome_goes_on none_grow old (after_charge_at old node worker moment (front_at node old.fronts)) applied new
    (charge_goes_on none_grow old node worker moment (front_at node old.fronts)) made.0)
step_carries checked old new (Refuse node worker) applied losses wired made apart =
    quiet_carries none_grow (record { leaves = λ _. refl; may_grow = λ _. refl; knows = λ _. refl; ends = λ _ _. refl; receives = λ _. refl })
    apart refl (outcome_goes_on none_grow old (after_refusal_at old node worker (front_at node old.fronts)) applied new
    (refuse_goes_on none_grow old node worker (front_at node old.fronts)) made.0)
step_carries checked old new (Emit node worker) applied losses wired made apart =
    quiet_carries (λ side. is_node side.1 node)
    (record { leaves = λ _. refl; may_grow = λ _. refl; knows = λ _. refl; ends = λ _ _. refl; receives = λ _. refl })
    apart refl (outcome_goes_on (λ side. is_node side.1 node) old (after_emit_at old node worker (front_at node old.fronts)) applied
    new (emit_goes_on (λ side. is_node side.1 node) old node (λ side e. e) worker (front_at node old.fronts)) made.0)
step_carries checked old new (Sweep moment) applied losses wired made apart =
    let swept = same_goes_on none_grow (after_sweep_at old moment) new made.0.1 in
    quiet_carries none_grow (record { leaves = λ _. refl; may_grow = λ _. refl; knows = λ _. refl; ends = λ _ _. refl; receives = λ _. refl })
    apart refl (record { directions = swept.directions; sent = swept.sent; received = swept.received })
step_carries checked old new (ChangeTerms moment change) applied losses wired made apart =
    let changed = same_goes_on none_grow (after_change_at old moment change) new made.0.1 in
    quiet_carries none_grow (record { leaves = λ _. refl; may_grow = λ _. refl; knows = λ _. refl; ends = λ _ _. refl; receives = λ _. refl })
    apart refl (record { directions = changed.directions; sent = changed.sent; received = changed.received })

-- what is promised of the step, and what the next one stands on
pub step_keeps_traffic : {site : Site} {ends : Ends} → IsSound site → (t : Transition) → IsWired site ends t.before → FarmStep site t.before t.step t.applied
    t.losses t.after → AreApart (sides t.before.directions) → KeepsTraffic site t × AreApart (sides t.after.directions)
step_keeps_traffic {site} {ends} checked t wired made apart =
    let c = step_carries checked t.before t.after t.step t.applied t.losses wired made apart in (
      record {
        in_flight = λ direction h e. let stands = c.in_flight direction (Has-contained h) e in (stands.0, stands.1, Contains-has stands.2);
        begun = λ direction h none. c.begun direction (Has-contained h) (λ other k. none other (Contains-has k));
        ended = λ direction other h e k. c.ended direction other (Has-contained h) e (Has-contained k);
        one_each = goes_once t.after.directions c.apart;
        posted = λ client to message direction is client_is knows h between.
            let sending = subst (λ (s : Step). FarmStep site t.before s t.applied t.losses t.after) is made in
            Contains-has (send_posts site ends t.before t.after t.applied wired apart client to message client_is knows direction
            (Has-contained h) between sending.0);
        sent = c.sent;
        received = c.received;
      },
      c.apart,
    )
