-- What is told of a job that was collected, and of a sweep.
use Rattle.std.specs.Prelude.{◌≡◌, ◌==◌, ℕ, List, ◌∷◌, ◌++◌, [], Bool, true, false, MatchBool, Option, Some, None, Result, Ok, Err}
use Rattle.dia_base.specs.declared.number.Moment.{Moment}
use Rattle.cc_book.specs.declared.book.BookRefusal.{BookRefusal}
use Rattle.cc_shared.specs.declared.receipt.Receipt.{Receipt}
use Rattle.farm_record.specs.declared.event.Age.{Age}
use Rattle.farm_record.specs.declared.event.Age.TheVariants.{New, Kept}
use Rattle.farm_record.specs.declared.event.Event.{Event}
use Rattle.farm_record.specs.declared.event.Event.TheVariants.{Charge, Refuse, Sweep}
use Rattle.front_pool.specs.declared.job.Finished.{Finished}

-- What is not told yet, in the order in which it was collected; whether anything is to be told; and whether memory was missing for
-- an event.
pub record EventsState : Type 0 where
  pub events : List Event
  pub is_on : Bool
  pub has_failed : Bool

-- nothing is to be told
abbrev pub no_events : EventsState
no_events = record { events = []; is_on = false; has_failed = false }

abbrev pub age_of : Bool → Age
age_of true = New
age_of false = Kept

-- a job with a receipt was charged, at the moment with which the book was asked, and one without it was answered without the book
abbrev pub event_by : Finished → Option Receipt → Option Moment → Event
event_by finished (Some receipt) (Some moment) = Charge finished.front finished.job moment receipt.place (age_of receipt.fresh) finished.answer
event_by finished (Some receipt) None = Refuse finished.front finished.job finished.answer
event_by finished None moment = Refuse finished.front finished.job finished.answer

abbrev pub event_of : Finished → Event
event_of finished = event_by finished finished.receipt finished.moment

-- from now on what is done is to be told
abbrev pub with_events_on : EventsState → EventsState
with_events_on events = record events { is_on = true }

-- An event more is kept, unless memory is missing for it, or was for one before it: behind such a gap nothing is kept any more.
pub record Keeps (event : Event) (old new : EventsState) : Type 0 where
  pub on : new.is_on ≡ old.is_on
  pub gap : old.has_failed ≡ true → new.has_failed ≡ true
  pub kept : new.has_failed ≡ false → new.events ≡ old.events ++ event ∷ []
  pub lost : new.has_failed ≡ true → new.events ≡ old.events

-- It is kept where anything is to be told.
abbrev pub Tells : Event → EventsState → EventsState → Type 0
Tells event old new = MatchBool old.is_on (Keeps event old new) (new ≡ old)

-- A sweep at this moment came to this. One that ends no session is not told, nor is one that was refused.
abbrev pub TellsSweep : Moment → Result ℕ BookRefusal → EventsState → EventsState → Type 0
TellsSweep moment (Ok ended) old new = MatchBool (ended == 0) (new ≡ old) (Tells (Sweep moment ended) old new)
TellsSweep moment (Err refusal) old new = new ≡ old
