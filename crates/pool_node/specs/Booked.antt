-- What a node keeps of its book.
use Rattle.std.specs.Prelude.{◌≡◌, Option, Some, None}
use Rattle.dia_base.specs.declared.number.Moment.{Moment}
use Rattle.cc_shared.specs.History.{SharedLedger}
use Rattle.cc_sweeper.specs.declared.errand.SweepDone.{SweepDone}
use Rattle.cc_sweeper.specs.Sweeps.{IsDoneFor}
use Rattle.front_pool.specs.declared.job.Finished.{Finished}
use Rattle.pool_node.specs.declared.figures.BookFigures.{BookFigures}
use Rattle.pool_node.specs.declared.sweeping.NextSweep.{NextSweep}
use Rattle.pool_node.specs.declared.sweeping.NextSweep.TheVariants.{From}
use Rattle.pool_node.specs.Events.{EventsState, Tells, TellsSweep, event_of, no_events}
use Rattle.pool_node.specs.Figures.{HasCollected, figures_after}
use Rattle.pool_node.specs.Sweeping.{next_sweep}
use Rattle.pool_node.specs.declared.timing.Timing.{Timing}

-- When it is swept next, what it has come to as far as answers were collected, and what is to be told and is not told yet.
pub record BookState : Type 0 where
  pub next_sweep : NextSweep
  pub figures : BookFigures
  pub events : EventsState

-- a book of which nothing was collected since it was opened
abbrev pub new_book : Timing → BookState
new_book timing = record { next_sweep = From timing.first_sweep; figures = timing.figures; events = no_events }

-- A finished job was collected. The figures have it, and it is to be told.
pub record HasTakenIn (finished : Finished) (old new : BookState) : Type 0 where
  pub counted : HasCollected finished.receipt old.figures new.figures
  pub told : Tells (event_of finished) old.events new.events
  pub sweep_is : new.next_sweep ≡ old.next_sweep

-- A sweep was collected. It says when the next one is due, the figures have it, and it is to be told.
pub record HasSwept (done : SweepDone) (old new : BookState) : Type 0 where
  pub next_is : new.next_sweep ≡ next_sweep done.moment done.swept
  pub figures_are : new.figures ≡ figures_after done.swept old.figures
  pub told : TellsSweep done.moment done.swept old.events new.events

-- The sweep that was under way as a process ended was collected. Where none was, nothing has changed.
abbrev pub KeepsLast : SharedLedger → Option Moment → BookState → BookState → Type 0
KeepsLast shared None old new = new ≡ old
KeepsLast shared (Some moment) old new = (done : SweepDone) × IsDoneFor shared (Some moment) done × HasSwept done old new

-- A process has ended: the sweep that was under way was collected, behind all else.
pub record EndsSwept (shared : SharedLedger) (asked : Option Moment) (new : BookState) : Type 0 where
  pub before : BookState
  pub keeps : KeepsLast shared asked before new
