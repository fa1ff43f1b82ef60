-- How many lines of one kind from one peer the log has: at most ten a second, and then a count of the others.
use Rattle.std.specs.Prelude.{◌≡◌, ◌+◌, ◌==◌, ◌&&◌, ◌∷◌, [], ℕ, Bool, true, false, List, Option, Some, None, min, nat_lt, if◌then◌else◌}
use Rattle.farm_log.specs.declared.count.Count.{Count}

-- the greatest count, at which it stays
abbrev pub most : ℕ
most = 18446744073709551615

abbrev pub no_lines : Count
no_lines = record { second = 0; written = 0; held = 0 }

-- one more is held back
abbrev pub with_held : Count → Count
with_held count = record count { held = min (count.held + 1) most }

-- the first line of a second
abbrev pub first_in : ℕ → Count
first_in second = record { second = second; written = 1; held = 0 }

-- one more is written in the same second
abbrev pub with_written : Count → Count
with_written count = record count { written = count.written + 1 }

-- A line comes in this second, or in one before that of the last line, which counts as that: whether it is written, and the count then.
-- Behind one that is held back all are, until that is told.
abbrev pub after_line : ℕ → Count → Bool × Count
after_line second count =
    if nat_lt 0 count.held then (false, with_held count)
    else if nat_lt count.second second then (true, first_in second)
    else if nat_lt count.written 10 then (true, with_written count)
    else (false, with_held count)

-- some are held back, and their second is over
abbrev pub is_due : ℕ → Count → Bool
is_due second count = nat_lt 0 count.held && nat_lt count.second second

-- Where that is so, a line tells how many, and is the first one of this second.
abbrev pub after_look : ℕ → Count → Option ℕ × Count
after_look second count = if is_due second count then (Some count.held, first_in second) else (None, count)

-- ---- what becomes of all lines of one kind from one peer

-- how many came, how many of these were written, how many were told as held back, and the second of each line that was written, of
-- those too that tell how many were held back; the last one first
pub record Told : Type 0 where
  pub came : ℕ
  pub written : ℕ
  pub counted : ℕ
  pub seconds : List ℕ

-- From no line on this count was come to, and this was told.
pub data Runs : Count → Told → Type 0 where
  begins : Runs no_lines (record { came = 0; written = 0; counted = 0; seconds = [] })
  writes : (count next : Count) (told : Told) (second : ℕ) → Runs count told → after_line second count ≡ (true, next) →
      Runs next (record told { came = told.came + 1; written = told.written + 1; seconds = next.second ∷ told.seconds })
  holds : (count next : Count) (told : Told) (second : ℕ) → Runs count told → after_line second count ≡ (false, next) →
      Runs next (record told { came = told.came + 1 })
  counts : (count next : Count) (told : Told) (second held : ℕ) → Runs count told → after_look second count ≡ (Some held, next) →
      Runs next (record told { counted = told.counted + held; seconds = next.second ∷ told.seconds })

-- how many of these are this second
abbrev pub lines_in : ℕ → List ℕ → ℕ
lines_in second [] = 0
lines_in second (it ∷ seconds) = if it == second then lines_in second seconds + 1 else lines_in second seconds
