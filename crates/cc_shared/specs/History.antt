-- The one history of a shared book, as threads have seen it.
use Rattle.std.specs.Prelude.{◌≡◌, ℕ, ◌==◌, Bool, true, false, List, [], ◌∷◌, ◌++◌, length, MatchBool}
use Rattle.logbook.specs.Pages.{Cell, Step, View, Book, Named}
use Rattle.cc_book.specs.declared.entry.Entry.{Entry}
use Rattle.cc_book.specs.Taking.{Ledger}
use Rattle.cc_shared.specs.declared.logged.Logged.{Logged}
use Rattle.cc_shared.specs.declared.logged.Logged.TheVariants.{Entered, Closed}

-- ---- what a history says

-- the entries that the book has appended
abbrev pub entries_in : List Logged → List Entry
entries_in [] = []
entries_in (Entered entry ∷ log) = entry ∷ entries_in log
entries_in (Closed ∷ log) = entries_in log

-- the book was closed
abbrev pub is_closed : List Logged → Bool
is_closed [] = false
is_closed (Entered entry ∷ log) = is_closed log
is_closed (Closed ∷ log) = true

-- A book as it was when it was shared, the history that it has from then on, by its name, and whether it is stored: else it is kept in
-- memory alone.
pub record SharedLedger : Type 0 where
  pub opened : Ledger
  pub log : Book
  pub stored : Bool

-- the book that was shared, as it was when this much of its history had happened
abbrev pub book_at : Ledger → List Logged → Ledger
book_at opened log = record opened { history = opened.history ++ entries_in log }

-- ---- how it is kept

-- The first word is its length. Such a book of words has two, of which this one leaves the second at 0.
pub record IsKept (cells : List Cell) (log : List Logged) : Type 0 where
  pub words : cells ≡ (length log, true) ∷ (0, true) ∷ []

abbrev pub head_of : Book → Named
head_of b = record { tracked = true; key = 0; book = b }

-- the record was added to all that had been seen; or the history was longer, and was seen
abbrev pub Adds : Step Logged → View Logged ℕ → ℕ → View Logged ℕ → Type 0
Adds s v found w = MatchBool (found == s.old) (w.0 ≡ v.0 ++ s.ask ∷ []) (length w.0 ≡ found)
