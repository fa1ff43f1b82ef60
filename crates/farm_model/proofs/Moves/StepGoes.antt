-- What a step of the farm does: moves lead on from the farm before it, and the farm hangs together as before.
use Rattle.std.proofs.Common.{◌≡◌, List, Option, Some, None, refl, sym, subst}
use Rattle.farm_law.specs.Farm.{Refused, Farm}
use Rattle.farm_law.specs.Moves.{done}
use Rattle.farm_base.specs.declared.site.Site.{Site}
use Rattle.farm_model.specs.Cause.{HasCause}
use Rattle.farm_model.specs.FarmStep.{Outcome}
use Rattle.farm_model.specs.Run.{Transition}
use Rattle.farm_model.specs.World.{Ends, WorldState}
use Rattle.farm_model.proofs.Moves.AsFarm.{parties, farm_of, LeadsTo}
use Rattle.farm_model.proofs.Moves.FrontRequests.{QueuesHoldRequests}
use Rattle.farm_model.proofs.OwnCauses.Refusing.{at_most_once, as_before}
use Rattle.farm_model.proofs.Wiring.Wired.{IsWired}

-- ---- a step goes

-- the transition shows a cause for a refusal
abbrev pub Reason : Transition → Refused → Type 0
Reason t r = HasCause t r.node r.conn r.request r.refusal

pub record Goes (site : Site) (ends : Ends) (HasReason : Refused → Type 0) (old : Farm) (next : WorldState) : Type 0 where
  pub leads : LeadsTo (parties site ends) ends HasReason at_most_once old next
  pub wired : IsWired site ends next
  pub requests : QueuesHoldRequests next.fronts

pub record StepGoes (site : Site) (ends : Ends) (t : Transition) (refused : List Refused) : Type 0 where
  pub leads : LeadsTo (parties site ends) ends (Reason t) at_most_once (farm_of ends refused t.before) t.after
  pub wired : IsWired site ends t.after
  pub requests : QueuesHoldRequests t.after.fronts

pub step_goes : (site : Site) (ends : Ends) (t : Transition) (refused : List Refused) → Goes site ends (Reason t) (farm_of ends refused t.before) t.after →
    StepGoes site ends t refused
step_goes site ends t refused g = record { leads = g.leads; wired = g.wired; requests = g.requests }

-- where the step does not apply
pub idle_goes : (site : Site) (ends : Ends) (t : Transition) (refused : List Refused) → t.after ≡ t.before → IsWired site ends t.before → QueuesHoldRequests
    t.before.fronts → StepGoes site ends t refused
idle_goes site ends t refused same wired requests = step_goes site ends t refused
    (subst (Goes site ends (Reason t) (farm_of ends refused t.before)) (sym same) (record {
      leads = record { refused = refused; moves = done; caused = as_before (Reason t) refused };
      wired = wired;
      requests = requests;
    }))

-- where it applies, its goal is to be shown
pub outcome_goes : (site : Site) (ends : Ends) (t : Transition) (refused : List Refused) (found : Option WorldState) → Outcome found t.applied t.before t.after
    → IsWired site ends t.before → QueuesHoldRequests t.before.fronts
    → ((next : WorldState) → found ≡ Some next → Goes site ends (Reason t) (farm_of ends refused t.before) next) → StepGoes site ends t refused
outcome_goes site ends t refused None o wired requests goes = idle_goes site ends t refused o.1 wired requests
outcome_goes site ends t refused (Some w) o wired requests goes = step_goes site ends t refused
    (subst (Goes site ends (Reason t) (farm_of ends refused t.before)) (sym o.1) (goes w refl))
