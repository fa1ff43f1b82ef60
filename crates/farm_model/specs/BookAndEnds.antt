-- What a step does to the book and to the connections that were made: said of the farm before it.
use Rattle.std.specs.Prelude.{◌≡◌, ℕ, ◌+◌, Bool, true, false, [], ◌∷◌, ◌++◌, length, Contains, Option, Some, None, if◌then◌else◌}
use Rattle.dia_base.specs.declared.number.Moment.{Moment}
use Rattle.dia_base.specs.declared.number.NodeNo.{NodeNo}
use Rattle.cc_book.specs.Taking.{Ledger, after_sweep}
use Rattle.front_core.specs.ChangingTerms.{after_change}
use Rattle.front_core.specs.FrontRun.{after_event}
use Rattle.front_core.specs.FrontState.{FrontState}
use Rattle.farm_base.specs.declared.site.Site.{Site}
use Rattle.farm_model.specs.declared.state.Direction.{Direction}
use Rattle.farm_base.specs.declared.step.Step.{Step}
use Rattle.farm_base.specs.declared.step.Step.TheVariants.{Up, Accept, Charge, Sweep, ChangeTerms}
use Rattle.farm_model.specs.RelayRuns.{connects}
use Rattle.farm_model.specs.Run.{Transition}
use Rattle.farm_model.specs.World.{Ends, WorldState, front_at}

-- the book after a charge by a worker of a front, if there is one
abbrev pub charged_by : Option FrontState → Ledger → ℕ → Moment → Ledger
charged_by None book worker moment = book
charged_by (Some front) book worker moment =
    (after_event front book (Rattle.front_core.specs.declared.event.FrontEvent.TheVariants.Charge worker moment)).ledger

abbrev pub book_at : Step → WorldState → Ledger
book_at (Charge front worker moment) w = charged_by (front_at front w.fronts) w.book worker moment
book_at (Sweep moment) w = after_sweep w.book moment
book_at (ChangeTerms moment change) w = after_change w.book moment change
book_at step w = w.book

-- the nodes of the connection that is made
abbrev pub ends_made : Site → Step → WorldState → Ends
ends_made site (Up a b) w = if connects site a b w.directions then (a, b) ∷ [] else []
ends_made site (Accept at from) w = if connects site from at w.directions then (from, at) ∷ [] else []
ends_made site step w = []

-- the one way of the next connection, which the node that it goes to knows or not, with nothing in flight
abbrev pub next_way : WorldState → NodeNo → NodeNo → Bool → Direction
next_way w from to known = record { conn = record { 0 = length w.ends + 1 }; from = from; to = to; known = known; messages = [] }

-- Why a direction stands after the step: it stood before, or is of the connection that is made.
pub data StandsAfter (site : Site) (t : Transition) (direction : Direction) : Type 0 where
  stood : (before : Direction) → Contains t.before.directions before → before.conn ≡ direction.conn → before.from ≡ direction.from →
      before.to ≡ direction.to → StandsAfter site t direction
  first_made : (a b : NodeNo) → t.step ≡ Up a b → connects site a b t.before.directions ≡ true → direction ≡ next_way t.before a b true →
      StandsAfter site t direction
  second_made : (a b : NodeNo) → t.step ≡ Up a b → connects site a b t.before.directions ≡ true → direction ≡ next_way t.before b a true →
      StandsAfter site t direction
  first_accepted : (at from : NodeNo) → t.step ≡ Accept at from → connects site from at t.before.directions ≡ true →
      direction ≡ next_way t.before from at true → StandsAfter site t direction
  second_accepted : (at from : NodeNo) → t.step ≡ Accept at from → connects site from at t.before.directions ≡ true →
      direction ≡ next_way t.before at from false → StandsAfter site t direction

-- What is promised of each step.
pub record KeepsBookAndEnds (site : Site) (t : Transition) : Type 0 where
  -- Charges, sweeps and changes of the terms change the book as a front and the book itself do, and nothing else changes it.
  pub book : t.after.book ≡ book_at t.step t.before
  -- The connections that were made are told in their order, with their nodes.
  pub ends : t.after.ends ≡ t.before.ends ++ ends_made site t.step t.before
  -- A new connection stands both ways.
  pub made : (a b : NodeNo) → t.step ≡ Up a b → connects site a b t.before.directions ≡ true → Contains t.after.directions
      (next_way t.before a b true) × Contains t.after.directions (next_way t.before b a true)
  -- One that a node accepts does, but the node that opens it does not know it yet.
  pub accepted : (at from : NodeNo) → t.step ≡ Accept at from → connects site from at t.before.directions ≡ true → Contains t.after.directions
      (next_way t.before from at true) × Contains t.after.directions (next_way t.before at from false)
  -- No other comes to stand.
  pub stands : (direction : Direction) → Contains t.after.directions direction → StandsAfter site t direction
