-- What came lately.
use Rattle.std.specs.Prelude.{◌==◌, ◌*◌, ◌-◌, ◌/◌, ℕ, min, nat_le, if◌then◌else◌}

-- so many a second, rounded down, from one count to another in so many microseconds
abbrev pub rate : ℕ → ℕ → ℕ → ℕ
rate from to micros = if micros == 0 then 0 else min ((to - from) * 1000000 / micros) 18446744073709551615

-- how high a line of 40 points is at a value, where it has them all at the greatest
abbrev pub height : ℕ → ℕ → ℕ
height value greatest = if greatest == 0 then 0 else if nat_le greatest value then 40 else value * 40 / greatest
