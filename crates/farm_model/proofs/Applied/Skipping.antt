-- A step that does not apply changes nothing.
use Rattle.std.proofs.Common.{◌≡◌, Bool, true, false, List, [], Option, Some, None, sym, ◌∙◌, true≢false}
use Rattle.std.specs.Prelude.{MatchBool}
use Rattle.dia_base.specs.declared.number.NodeNo.{NodeNo}
use Rattle.farm_base.specs.declared.site.Site.{Site}
use Rattle.farm_model.specs.declared.state.Direction.{Direction}
use Rattle.farm_base.specs.declared.step.Step.{Step}
use Rattle.farm_base.specs.declared.step.Step.TheVariants.{Up, Accept, Opened, Send, Deliver, Lose, Cut, Drop}
use Rattle.farm_base.specs.declared.step.Step.TheVariants.{Restart, Crash, Pick, Charge, Refuse, Emit, Sweep, ChangeTerms}
use Rattle.farm_model.specs.FarmStep.{FarmStep, Outcome, Flight, Delivers, DropsIt, can_cut, flight_at, loss_at}
use Rattle.farm_model.specs.FarmStep.{after_accept, after_opened, after_up, after_send, after_lost_message, after_pick_at}
use Rattle.farm_model.specs.FarmStep.{after_charge_at, after_refusal_at, after_emit_at, after_sweep_at, after_change_at, can_restart, after_crash_at}
use Rattle.farm_model.specs.Loss.{LossAt, end_with, CutsBoth, after_crash, peers_of, DropAll}
use Rattle.farm_model.specs.World.{WorldState, front_at}

module _ (site : Site) (old new : WorldState) (applied : Bool) (losses : List LossAt) (skipped : applied ≡ false) where
  it_applied : applied ≡ true → new ≡ old
  it_applied e = absurd (true≢false (sym e ∙ skipped))

  outcome_skips : (o : Option WorldState) → Outcome o applied old new → new ≡ old
  outcome_skips None made = made.1
  outcome_skips (Some next) made = it_applied made.0

  delivery_skips : (to : NodeNo) (flight : Option Flight) → Delivers site old to flight applied new → new ≡ old
  delivery_skips to None made = made.1
  delivery_skips to (Some flight) made = it_applied made.0

  cut_skips : (a b : NodeNo) (b' : Bool) → MatchBool b' ((applied ≡ true) × CutsBoth old a b losses new) ((applied ≡ false) × (losses ≡ []) × (new ≡ old)) →
      new ≡ old
  cut_skips a b true made = it_applied made.0
  cut_skips a b false made = made.2

  drop_skips : (a : NodeNo) (found : Option Direction) → DropsIt old a found applied losses new → new ≡ old
  drop_skips a None made = made.1.1
  drop_skips a (Some direction) made = it_applied made.0

  restart_skips : (node : NodeNo) (b : Bool) → MatchBool b ((applied ≡ true) × DropAll node (peers_of node old.directions) (after_crash old node) losses new)
      ((applied ≡ false) × (losses ≡ []) × (new ≡ old)) → new ≡ old
  restart_skips node true made = it_applied made.0
  restart_skips node false made = made.2

  pub step_skips : (step : Step) → FarmStep site old step applied losses new → new ≡ old
  step_skips (Up a b) made = outcome_skips (after_up site old a b) made.0
  step_skips (Accept at from) made = outcome_skips (after_accept site old at from) made.0
  step_skips (Opened a b) made = outcome_skips (after_opened old a b) made.0
  step_skips (Send client to message) made = outcome_skips (after_send site old client to message) made.0
  step_skips (Deliver from to place) made = delivery_skips to (flight_at old.directions from to place) made.0
  step_skips (Lose from to place) made = outcome_skips (after_lost_message old (loss_at old.directions from to place)) made.0
  step_skips (Cut a b) made = cut_skips a b (can_cut old a b) made
  step_skips (Drop a b) made = drop_skips a (end_with old.directions a b) made
  step_skips (Crash node) made = outcome_skips (after_crash_at site old node) made.0
  step_skips (Restart node) made = restart_skips node (can_restart site node) made
  step_skips (Pick node worker) made = outcome_skips (after_pick_at old node worker (front_at node old.fronts)) made.0
  step_skips (Charge node worker moment) made = outcome_skips (after_charge_at old node worker moment (front_at node old.fronts)) made.0
  step_skips (Refuse node worker) made = outcome_skips (after_refusal_at old node worker (front_at node old.fronts)) made.0
  step_skips (Emit node worker) made = outcome_skips (after_emit_at old node worker (front_at node old.fronts)) made.0
  step_skips (Sweep moment) made = outcome_skips (Some (after_sweep_at old moment)) made.0
  step_skips (ChangeTerms moment change) made = outcome_skips (Some (after_change_at old moment change)) made.0
