-- When the system's clock goes with a book.
use Rattle.std.specs.Prelude.{◌⊎◌, ◌+◌, ◌<◌, Bool, IsTrue}
use Rattle.dia_base.specs.declared.number.Moment.{Moment}

-- a clock that says this moment stands more than a day, 86,400,000 milliseconds, behind the latest entry
abbrev pub IsBehind : Moment → Moment → Type 0
IsBehind latest now = now.0 + 86400000 < latest.0

-- Who serves may go on: the operator gives leave, or the clock does not stand so far behind.
abbrev pub IsServed : Moment → Moment → Bool → Type 0
IsServed latest now has_leave = IsTrue has_leave ⊎ (IsBehind latest now → ⊥)
