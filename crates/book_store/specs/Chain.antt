-- Rows that are those of a book: each at its place, each chained to the sum before.
use Rattle.std.specs.Prelude.{◌≡◌, ℕ, suc, ◌<◌, ◌==◌, List, [], ◌∷◌, length, take, slice_index_or, Option, Some, None, Result, Ok, Err, if◌then◌else◌}
use Rattle.std.specs.Option.{option_and_then}
use Rattle.book_rows.specs.declared.fault.Fault.{Fault}
use Rattle.book_rows.specs.declared.row.Row.{Row}
use Rattle.book_rows.specs.Row.{body, body_of, row_of, sum_after}

-- the sum of a row, where it has this place and is chained to the sum before
abbrev pub checked_sum : ℕ → ℕ → Row → Option ℕ
checked_sum place before row =
    if row.place == place then (if row.sum.0 == sum_after before (body.spell (body_of row)) then Some row.sum.0 else None) else None

abbrev pub sum_of_read : ℕ → ℕ → Result Row Fault → Option ℕ
sum_of_read place before (Ok row) = checked_sum place before row
sum_of_read place before (Err fault) = None

-- the sum of the row that octets spell, where it has this place and is chained to the sum before
abbrev pub next_sum : ℕ → ℕ → List ℕ → Option ℕ
next_sum place before octets = sum_of_read place before (row_of octets)

-- the last sum of rows from a place on, where each is that of its place and chained to the one before
abbrev pub sum_of : ℕ → ℕ → List (List ℕ) → Option ℕ
sum_of place before [] = Some before
sum_of place before (octets ∷ rows) = option_and_then (λ sum. sum_of (suc place) sum rows) (next_sum place before octets)

-- The rows before a place are right, and the row at it has another place, is not chained, or is none.
pub record IsWrongAt (rows : List (List ℕ)) (place : ℕ) : Type 0 where
  pub within : place < length rows
  pub before : ℕ
  pub right : sum_of 0 0 (take place rows) ≡ Some before
  pub wrong : next_sum place before (slice_index_or rows place []) ≡ None
