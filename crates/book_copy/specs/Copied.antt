-- What an opening finds of a copy that was not finished.
use Rattle.std.specs.Prelude.{◌≡◌, ◌≤◌, ℕ, List, length, take}
use Rattle.book_beside.specs.Beside.{Beside}
use Rattle.book_store.specs.Table.{Stored, stored_with}

-- the book, with so many of its rows, none skipped and none in part, and this beside them
abbrev pub IsBeginning : List ℕ → List (List ℕ) → Beside → Stored → Type 0
IsBeginning about rows beside left = (n : ℕ) × (n ≤ length rows) × (left ≡ stored_with about (take n rows) beside)
