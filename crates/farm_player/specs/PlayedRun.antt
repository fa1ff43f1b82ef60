-- A run of the farm that is played step by step, from the empty history.
use Rattle.std.specs.Prelude.{◌≡◌, ℕ, ◌+◌, ◌-◌, ◌^◌, ◌<◌, Bool, true, false, List, [], ◌∷◌, ◌++◌, if◌then◌else◌}
use Rattle.dia_base.specs.declared.number.NodeNo.{NodeNo}
use Rattle.farm_base.specs.declared.site.Site.{Site}
use Rattle.farm_base.specs.declared.step.Step.{Step}
use Rattle.farm_model.specs.FarmStep.{FarmStep}
use Rattle.farm_model.specs.Loss.{LossAt}
use Rattle.farm_model.specs.Run.{Transition, start}
use Rattle.farm_model.specs.World.{WorldState, relay_at}
use Rattle.farm_world.specs.RelayEvents.{with_start_of_relay}
use Rattle.farm_player.specs.Counting.{steps_after, lines_after}
use Rattle.farm_player.specs.Passing.{Passage, passed_by}
use Rattle.farm_player.specs.StepLines.{step_line}

-- A step is tried, or a relay draws the start of its identifiers, as one does when its process begins.
pub data Turn : Type 0 where
  Try : Transition → Turn
  Draw : NodeNo → ℕ → WorldState → Turn

-- the farm with a relay that gives identifiers from this start
abbrev pub with_start : NodeNo → ℕ → WorldState → WorldState
with_start node from w = record w { relays = with_start_of_relay node from w.relays (relay_at node w.relays) }

-- The turns lead from the one farm to the other, the last first. Each step that is tried is a step of the proved farm.
abbrev pub PlayedRun : Site → WorldState → List Turn → WorldState → Type 0
PlayedRun site first [] last = last ≡ first
PlayedRun site first (Try t ∷ turns) last =
    PlayedRun site first turns t.before × FarmStep site t.before t.step t.applied t.losses t.after × (last ≡ t.after)
PlayedRun site first (Draw node from before ∷ turns) last = PlayedRun site first turns before × (last ≡ with_start node from before)

-- how many steps applied
abbrev pub applied_in : List Turn → ℕ
applied_in [] = 0
applied_in (Try t ∷ turns) = if t.applied then applied_in turns + 1 else applied_in turns
applied_in (Draw node from before ∷ turns) = applied_in turns

-- the lines of the steps that applied, in their order
abbrev pub lines_of : Site → List Turn → List ℕ
lines_of site [] = []
lines_of site (Try t ∷ turns) = if t.applied then lines_of site turns ++ step_line site t.step else lines_of site turns
lines_of site (Draw node from before ∷ turns) = lines_of site turns

-- the messages that have passed, in the order of the run
abbrev pub passages_in : List Turn → List Passage
passages_in [] = []
passages_in (Try t ∷ turns) = passages_in turns ++ passed_by t.before t.step t.applied
passages_in (Draw node from before ∷ turns) = passages_in turns

-- The lines that were not handed out yet are the last of them all; where nobody asks for lines there are none.
abbrev pub AreLastLines : Bool → List ℕ → List ℕ → Type 0
AreLastLines true all lines = (before : List ℕ) × (before ++ lines ≡ all)
AreLastLines false all lines = lines ≡ []

-- The farm stands at the end of a run from its beginning, in which these messages have passed; so many steps applied, and these lines are
-- the last.
pub record IsPlayed (site : Site) (world : WorldState) (passed : List Passage) (steps : ℕ) (prints : Bool) (lines : List ℕ) : Type 0 where
  pub turns : List Turn
  pub run : PlayedRun site (start site) turns world
  pub passes : passed ≡ passages_in turns
  -- the count stops at its largest number
  pub counted : steps < 2 ^ 64 - 1 → steps ≡ applied_in turns
  pub printed : AreLastLines prints (lines_of site turns) lines

-- ---- what is seen of a farm that is played

pub record PlayedState : Type 0 where
  pub site : Site
  pub world : WorldState
  pub passed : List Passage
  pub steps : ℕ
  pub prints : Bool
  -- those that were not handed out yet
  pub lines : List ℕ
  -- no memory was missing in the middle of a step
  pub is_whole : Bool

-- before the first step
abbrev pub beginning : Site → Bool → PlayedState
beginning site prints = record { site = site; world = start site; passed = []; steps = 0; prints = prints; lines = []; is_whole = true }

-- what is seen behind a step that applied, or did not, where the farm is this
abbrev pub after_step : PlayedState → Step → Bool → WorldState → PlayedState
after_step old step applied world = record old {
  world = world;
  passed = old.passed ++ passed_by old.world step applied;
  steps = steps_after applied old.steps;
  lines = lines_after old.prints applied old.site step old.lines;
}

-- the step was tried on the proved farm, and its line joins the others where it applied
pub record PlaysStep (old : PlayedState) (step : Step) (applied : Bool) (new : PlayedState) : Type 0 where
  pub world : WorldState
  pub losses : List LossAt
  pub played : FarmStep old.site old.world step applied losses world
  pub leaves : new ≡ after_step old step applied world
