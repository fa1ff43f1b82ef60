-- The rows of a book as a table of a database: each under the number of its place, with its octets.
use Rattle.std.specs.Prelude.{◌≡◌, ℕ, suc, pos, List, [], ◌∷◌, length, map, slice_index_or, IsTrue, false}
use Rattle.std.specs.Global.{Vec}
use Rattle.sqlite_value.specs.declared.value.Value.{Value}
use Rattle.sqlite_value.specs.declared.value.Value.TheVariants.{Null, Int, Real, Text, Blob}
use Rattle.sqlite_value.specs.Order.{Row, column}
use Rattle.std.proofs.Common.{ap, sym, ◌∙◌}
use Rattle.sqlite_trees.specs.Tree.{Trees, put_row}
use Rattle.book_rows.specs.declared.about.Standing.{Standing}
use Rattle.book_rows.specs.About.{standing, standing_with}
use Rattle.sqlite_trees.specs.View.{View}
use Rattle.book_beside.specs.Beside.{Beside, HasBeside, beside_in, written_all}
use Rattle.book_beside.specs.declared.write.Write.{Write}
use Rattle.sqlite_trees.specs.declared.store.Shape.TheVariants.{Table}

-- the row of the table for the row of the book at a place
abbrev pub stored : ℕ → List ℕ → Row
stored place octets = Int (pos place) ∷ Blob octets ∷ []

-- the rows from a place on
abbrev pub table_from : ℕ → List (List ℕ) → List Row
table_from place [] = []
table_from place (octets ∷ rows) = stored place octets ∷ table_from (suc place) rows

abbrev pub octets_of : Value → List ℕ
octets_of (Blob octets) = octets
octets_of Null = []
octets_of (Int n) = []
octets_of (Real x) = []
octets_of (Text t) = []

-- the octets of each row of a table
abbrev pub rows_in : List Row → List (List ℕ)
rows_in [] = []
rows_in (row ∷ table) = octets_of (column row 1) ∷ rows_in table

-- the rows of the table are those of places 0, 1, 2 and so on, none skipped
abbrev pub IsInOrder : List Row → Type 0
IsInOrder table = table ≡ table_from 0 (rows_in table)

-- a table has so many rows, each of which is that of its place
pub record IsCounted (table : List Row) (n : ℕ) : Type 0 where
  pub order : IsInOrder table
  pub count : n ≡ length (rows_in table)

-- a table after rows were put from a place on, the first of them first
abbrev pub put_from : ℕ → List (List ℕ) → List Row → List Row
put_from place [] table = table
put_from place (octets ∷ rows) table = put_from (suc place) rows (put_row (stored place octets) table)

-- the octets of each of these
abbrev pub octets_in : List (Vec ℕ) → List (List ℕ)
octets_in = map (λ octets. octets.items)

-- ---- what is stored

-- What is stored of a book: what the book is, its rows, and where it stands, all as octets, and what stands beside the rows.
pub record Stored : Type 0 where
  pub about : List ℕ
  pub rows : List (List ℕ)
  pub standing : List ℕ
  pub beside : Beside

-- what is stored of a book that is this one and has these rows, with this beside them: it stands where they say
abbrev pub stored_with : List ℕ → List (List ℕ) → Beside → Stored
stored_with about rows beside = record { about = about; rows = rows; standing = standing.spell (standing_with rows); beside = beside }

-- Table 0 has the rows. Of table 1 the first row says what the book is, and the second where it stands.
abbrev pub about_in : List Row → List ℕ
about_in table = slice_index_or (rows_in table) 0 []

abbrev pub standing_in : List Row → List ℕ
standing_in table = slice_index_or (rows_in table) 1 []

abbrev pub stored_in : Trees → Stored
stored_in trees = record { about = about_in (trees 1); rows = rows_in (trees 0); standing = standing_in (trees 1); beside = beside_in trees }

-- the table of what a book is that has these rows
abbrev pub book_table : List ℕ → List (List ℕ) → List Row
book_table about rows = table_from 0 (about ∷ standing.spell (standing_with rows) ∷ [])

-- The rows of a batch are put from a place on, it is said where the book stands then, and these writes are made beside the rows.
pub record IsPut (place : ℕ) (batch : List (List ℕ)) (here : Standing) (writes : List Write) (old new : Trees) : Type 0 where
  pub rows : new 0 ≡ put_from place batch (old 0)
  pub book : new 1 ≡ put_row (stored 1 (standing.spell here)) (old 1)
  pub beside : beside_in new ≡ written_all (beside_in old) writes

-- it is said what a book is and where it stands
pub record IsMade (about : List ℕ) (here : Standing) (old new : Trees) : Type 0 where
  pub rows : new 0 ≡ old 0
  pub book : new 1 ≡ put_row (stored 1 (standing.spell here)) (put_row (stored 0 about) (old 1))
  pub beside : beside_in new ≡ beside_in old

-- all tables are there
pub record HasTables (view : View) : Type 0 where
  pub rows : view.shape 0 ≡ Table
  pub book : view.shape 1 ≡ Table
  pub beside : HasBeside view

-- nothing is under way, and the tables are those of a book
pub record IsAtRest (view : View) : Type 0 where
  pub is_open : IsTrue view.is_open
  pub sound : view.is_broken ≡ false
  pub tables : HasTables view
  pub settled : view.trees 0 ≡ view.committed 0
  pub settled_book : view.trees 1 ≡ view.committed 1
  pub settled_beside : beside_in view.trees ≡ beside_in view.committed
  pub order : IsInOrder (view.committed 0)
  pub book : view.committed 1 ≡ book_table (about_in (view.committed 1)) (rows_in (view.committed 0))

-- nothing is under way, and the book stands here
pub record IsReady (view : View) (here : Standing) : Type 0 where
  pub rest : IsAtRest view
  pub stands : here ≡ standing_with (rows_in (view.committed 0))

-- a crash may leave a database with this
pub record Leaves (recovers : Trees → Type 0) (left : Stored) : Type 0 where
  pub database : Trees
  pub found : recovers database
  pub is : left ≡ stored_in database

-- what is stored in tables that are those of a book
pub stored_at_rest : (trees : Trees) → trees 1 ≡ book_table (about_in (trees 1)) (rows_in (trees 0)) → stored_in trees ≡ stored_with (about_in (trees 1)) (rows_in (trees 0)) (beside_in trees)
stored_at_rest trees book = ap (λ (table : List Row). record { about = about_in (trees 1); rows = rows_in (trees 0); standing = standing_in table; beside = beside_in trees }) book

pub left_at_rest : (recovers : Trees → Type 0) (committed : Trees) (left : Stored) → committed 1 ≡ book_table (about_in (committed 1)) (rows_in (committed 0)) → ((db : Trees) → recovers db → db ≡ committed) → Leaves recovers left
    → left ≡ stored_with (about_in (committed 1)) (rows_in (committed 0)) (beside_in committed)
left_at_rest recovers committed left book settled leaves =
    leaves.is ∙ ap stored_in (settled leaves.database leaves.found) ∙ stored_at_rest committed book

pub committed_may_stay : (recovers : Trees → Type 0) (committed : Trees) → committed 1 ≡ book_table (about_in (committed 1)) (rows_in (committed 0)) → recovers committed
    → Leaves recovers (stored_with (about_in (committed 1)) (rows_in (committed 0)) (beside_in committed))
committed_may_stay recovers committed book stays = record { database = committed; found = stays; is = sym (stored_at_rest committed book) }
