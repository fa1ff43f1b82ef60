-- The rows of a history: what is stored of a book. Each entry has one row, at its place.
use Rattle.std.specs.Prelude.{◌≡◌, ℕ, ◌<◌, List, [], ◌∷◌, ◌++◌, length, map, take, slice_get, Option, None, Some}
use Rattle.dia_base.specs.declared.number.Moment.{Moment}
use Rattle.book_rows.specs.declared.row.Row.{Row}
use Rattle.book_rows.specs.declared.row.Step.{Step}
use Rattle.book_rows.specs.declared.row.Step.TheVariants as steps
use Rattle.book_rows.specs.Row.{body, spelled, sum_after, Chains}
use Rattle.cc_book.specs.declared.entry.Entry.{Entry}
use Rattle.cc_book.specs.declared.entry.Entry.TheVariants.{Take, Sweep, ChangeTerms}
use Rattle.cc_book.specs.declared.terms.Terms.{Terms}
use Rattle.cc_book.specs.AccountMachine.{reply_to}
use Rattle.cc_book.specs.Balance.{debit_of}

abbrev pub moment_of : Entry → Moment
moment_of (Take moment request) = moment
moment_of (Sweep moment) = moment
moment_of (ChangeTerms moment change) = moment

-- What the row of an entry behind others holds: of a request that was taken what was asked, the reply that the account
-- machine gives to it there, and what it debits there; of a change of the terms what it changes.
abbrev pub step_behind : Terms → List Entry → Entry → Step
step_behind terms before (Take moment request) =
    steps.Take (record { request = request; reply = reply_to terms before request; debit = debit_of terms before request })
step_behind terms before (Sweep moment) = steps.Sweep
step_behind terms before (ChangeTerms moment change) = steps.ChangeTerms change

-- The row of an entry behind others, whose last row has this sum.
abbrev pub row_behind : Terms → List Entry → ℕ → Entry → Row
row_behind terms before sum entry = record {
  place = length before;
  moment = moment_of entry;
  step = step_behind terms before entry;
  sum = record { 0 = sum_after sum (body.spell (length before, ((moment_of entry).0, step_behind terms before entry))) };
}

-- the rows of entries behind others, whose last row has this sum
abbrev pub rows_from : Terms → List Entry → ℕ → List Entry → List Row
rows_from terms before sum [] = []
rows_from terms before sum (entry ∷ after) =
    row_behind terms before sum entry ∷ rows_from terms (before ++ entry ∷ []) (row_behind terms before sum entry).sum.0 after

-- The rows of a history: the first is chained to the sum 0.
unfoldable pub rows_of : Terms → List Entry → List Row
rows_of terms history = rows_from terms [] 0 history

-- the sum of the last of these rows, where the row before them has this one
abbrev pub last_sum : ℕ → List Row → ℕ
last_sum sum [] = sum
last_sum sum (row ∷ rows) = last_sum row.sum.0 rows

-- The sum of a history: that of its last row, and 0 where it has none. It names the whole history.
unfoldable pub sum_of : Terms → List Entry → ℕ
sum_of terms history = last_sum 0 (rows_of terms history)

-- the octets that are stored of a history
unfoldable pub stored_of : Terms → List Entry → List (List ℕ)
stored_of terms history = map spelled (rows_of terms history)

-- the row, where there is one
abbrev pub one_or_none : Option Row → List Row
one_or_none None = []
one_or_none (Some row) = row ∷ []

-- ---- place by place

-- The row of the entry at a place: it has this place and the entry's moment, what it holds is what the entries before it
-- make of it, and its sum is chained to that of these entries.
pub record IsRowOf (terms : Terms) (history : List Entry) (place : ℕ) (entry : Entry) (row : Row) : Type 0 where
  pub placed : row.place ≡ place
  pub moment : row.moment ≡ moment_of entry
  pub step : row.step ≡ step_behind terms (take place history) entry
  pub chains : Chains (sum_of terms (take place history)) row

-- the entry at a place has its row there
pub record HasRowAt (terms : Terms) (history : List Entry) (place : ℕ) (entry : Entry) : Type 0 where
  pub row : Row
  pub there : slice_get (rows_of terms history) place ≡ Some row
  pub is : IsRowOf terms history place entry row
