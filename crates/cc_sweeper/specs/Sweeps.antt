-- What a sweep of a shared book comes to.
use Rattle.std.specs.Prelude.{◌≡◌, ℕ, Option, Some, None, Result, Ok, Err}
use Rattle.dia_base.specs.declared.number.Moment.{Moment}
use Rattle.cc_book.specs.declared.book.BookRefusal.{BookRefusal}
use Rattle.cc_shared.specs.declared.looks.Swept.{Swept}
use Rattle.cc_shared.specs.History.{SharedLedger}
use Rattle.cc_shared.specs.Sharing.{IsNoSweep, IsSweep}
use Rattle.cc_sweeper.specs.declared.errand.SweepDone.{SweepDone}

-- The book was swept at this moment, and has ended so many sessions, or has refused, and why.
abbrev pub IsSweptTo : SharedLedger → Moment → Result ℕ BookRefusal → Type 0
IsSweptTo shared moment (Ok ended) = (swept : Swept) × IsSweep shared moment swept × (ended ≡ swept.ended)
IsSweptTo shared moment (Err refusal) = IsNoSweep shared moment refusal

-- what the sweep that was asked for has come to
pub record IsDoneFor (shared : SharedLedger) (asked : Option Moment) (done : SweepDone) : Type 0 where
  pub asked_for : asked ≡ Some done.moment
  pub swept_to : IsSweptTo shared done.moment done.swept

-- A sweep that was under way is collected, and none is from then on; or none is done yet, and nothing has changed.
abbrev pub Collects : SharedLedger → Option Moment → Option SweepDone → Option Moment → Type 0
Collects shared old None new = new ≡ old
Collects shared old (Some done) new = IsDoneFor shared old done × (new ≡ None)

-- What is left at the end: what the sweep that was under way has come to. Where none was, nothing.
abbrev pub EndsWith : SharedLedger → Option Moment → Option SweepDone → Type 0
EndsWith shared asked None = asked ≡ None
EndsWith shared asked (Some done) = IsDoneFor shared asked done
