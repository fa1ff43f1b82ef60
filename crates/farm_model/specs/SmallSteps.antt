-- The three steps that are others in a row: a connection comes up, one is cut, and a node begins anew.
use Rattle.std.specs.Prelude.{◌≡◌, true, List, [], ◌∷◌, ◌++◌, map, filter, flat_map}
use Rattle.dia_base.specs.declared.number.NodeNo.{NodeNo}
use Rattle.farm_base.specs.declared.site.Site.{Site}
use Rattle.farm_base.specs.declared.step.Step.{Step}
use Rattle.farm_base.specs.declared.step.Step.TheVariants.{Up, Accept, Opened, Lose, Cut, Drop, Restart, Crash}
use Rattle.farm_model.specs.declared.state.Direction.{Direction}
use Rattle.farm_model.specs.InFlight.{goes}
use Rattle.farm_model.specs.Loss.{LossAt, peers_of}
use Rattle.farm_model.specs.Run.{Past, Run, Transition, steps_in}
use Rattle.farm_model.specs.World.{WorldState}

-- all that is in flight from the one node to the other is lost, one message after the other
abbrev pub loses_all : NodeNo → NodeNo → List Direction → List Step
loses_all from to directions = flat_map (λ direction. map (λ message. Lose from to 0) direction.messages) (filter (goes from to) directions)

-- what the step consists of, in the farm before it
abbrev pub small_steps : Step → WorldState → List Step
small_steps (Up a b) w = Accept b a ∷ Opened a b ∷ []
small_steps (Cut a b) w = loses_all a b w.directions ++ loses_all b a w.directions ++ Drop a b ∷ Drop b a ∷ []
-- each of its peers drops its connection, in the order of these
small_steps (Restart node) w = Crash node ∷ map (λ peer. Drop peer node) (peers_of node w.directions)
small_steps step w = step ∷ []

-- who learns of lost connections in a run, and when
abbrev pub losses_in : Past → List LossAt
losses_in past = flat_map (λ t. t.losses) past

-- These steps, one after the other, lead to the same farm, and the same nodes learn of the same losses.
pub record GoesInSmallSteps (site : Site) (t : Transition) : Type 0 where
  pub row : Past
  pub steps : steps_in row ≡ small_steps t.step t.before
  pub run : Run site t.before row t.after
  pub losses : losses_in row ≡ t.losses

-- where it applies
abbrev pub AppliesInSmallSteps : Site → Transition → Type 0
AppliesInSmallSteps site t = t.applied ≡ true → GoesInSmallSteps site t
