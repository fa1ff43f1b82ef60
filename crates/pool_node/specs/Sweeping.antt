-- When the book of a process is swept next, a second after the last time and never again once it is full; and what a node does with
-- the sweep that is under way.
use Rattle.std.specs.Prelude.{◌≡◌, ℕ, ◌+◌, ◌&&◌, Bool, false, not, nat_le, min, Option, Some, None, is_some, Result, Ok, Err, if◌then◌else◌}
use Rattle.dia_base.specs.declared.number.Moment.{Moment}
use Rattle.cc_book.specs.declared.book.BookRefusal.{BookRefusal}
use Rattle.cc_book.specs.declared.book.BookRefusal.TheVariants as refused
use Rattle.pool_node.specs.declared.sweeping.NextSweep.{NextSweep}
use Rattle.pool_node.specs.declared.sweeping.NextSweep.TheVariants.{From, Never}

abbrev pub is_due : NextSweep → Moment → Bool
is_due (From first) moment = nat_le first.0 moment.0
is_due Never moment = false

-- a second later, as far as moments go
abbrev pub later : Moment → Moment
later moment = record { 0 = min (moment.0 + 1000) 18446744073709551615 }

abbrev pub next_sweep : Moment → Result ℕ BookRefusal → NextSweep
next_sweep moment (Ok ended) = From (later moment)
next_sweep moment (Err (refused.Full limit)) = Never
next_sweep moment (Err refused.OutOfMemory) = From (later moment)

-- which sweep is under way behind a tick at this moment: one at this moment where one is due and none was, else the one that was
abbrev pub asked_at : NextSweep → Moment → Option Moment → Option Moment
asked_at next moment asked = if is_due next moment && not (is_some asked) then Some moment else asked
