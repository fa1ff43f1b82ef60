-- What an opening finds, and what it refuses.
use Rattle.std.specs.Prelude.{◌≡◌, ℕ, ◌<◌, List, [], ◌++◌, length, take, slice_index_or, Some, IsTrue, false}
use Rattle.sqlite_value.specs.Order.{Row}
use Rattle.sqlite_trees.specs.View.{IsClean, View}
use Rattle.book_rows.specs.declared.about.Standing.{Standing}
use Rattle.book_beside.specs.Beside.{beside_in}
use Rattle.book_rows.specs.About.{standing, standing_with}
use Rattle.book_store.specs.Table.{HasTables, IsInOrder, about_in, book_table, rows_in, stored, standing_in, table_from}

-- The rows before a place are those of their places, and the row that stands behind them is not that of this place.
pub record IsDamagedAt (table : List Row) (place : ℕ) : Type 0 where
  pub within : place < length table
  pub before : take place table ≡ table_from 0 (take place (rows_in table))
  pub here : (octets : List ℕ) → slice_index_or table place [] ≡ stored place octets → ⊥

-- only the cursors may differ
abbrev pub IsAlike : View → View → Type 0
IsAlike old new = new ≡ record old { cursors = new.cursors }

-- The rows before a place have been read of the table, and a cursor has the others left.
pub record HasRead (tree : ℕ) (first now : View) (place : ℕ) : Type 0 where
  pub alike : IsAlike first now
  pub rows : List (List ℕ)
  pub left : List Row
  pub cursor : now.cursors 0 ≡ Some left
  pub table : first.trees tree ≡ table_from 0 rows ++ left
  pub count : length rows ≡ place

-- all rows of the table have been read, and each is that of its place
pub record HasReadAll (tree : ℕ) (first now : View) (place : ℕ) : Type 0 where
  pub alike : IsAlike first now
  pub order : IsInOrder (first.trees tree)
  pub count : place ≡ length (rows_in (first.trees tree))

-- nothing is under way in a store that is open
pub record IsFresh (view : View) : Type 0 where
  pub is_open : IsTrue view.is_open
  pub sound : view.is_broken ≡ false
  pub settled : view.trees 0 ≡ view.committed 0
  pub settled_book : view.trees 1 ≡ view.committed 1
  pub settled_beside : beside_in view.trees ≡ beside_in view.committed

-- the tables are there, and no tree was made or dropped since the last commit
pub record IsUnaltered (view : View) : Type 0 where
  pub tables : HasTables view
  pub committed : view.shape ≡ view.committed_shape

-- the tables can be found after a crash
abbrev pub MayReopen : View → Type 0
MayReopen view = IsClean view → IsUnaltered view

-- no tree was made or dropped
pub record KeepsShapes (old new : View) : Type 0 where
  pub shape : new.shape ≡ old.shape
  pub committed : new.committed_shape ≡ old.committed_shape

-- The rows are those of their places, and where the book is said to stand is not where they say.
pub record StandsElsewhere (rows book : List Row) : Type 0 where
  pub order : IsInOrder rows
  pub elsewhere : standing_in book ≡ standing.spell (standing_with (rows_in rows)) → ⊥

-- The tables are those of a book that stands here, and only cursors were moved.
pub record IsFound (first now : View) (here : Standing) : Type 0 where
  pub alike : IsAlike first now
  pub order : IsInOrder (first.trees 0)
  pub book : first.trees 1 ≡ book_table (about_in (first.trees 1)) (rows_in (first.trees 0))
  pub stands : here ≡ standing_with (rows_in (first.trees 0))

-- the tables of rows and of the book are empty, and only cursors were moved
pub record IsEmpty (first now : View) : Type 0 where
  pub alike : IsAlike first now
  pub rows : first.trees 0 ≡ []
  pub book : first.trees 1 ≡ []
