-- What stands beside the rows of a book: accounts and open sessions as they stand, each at its place.
use Rattle.std.specs.Prelude.{◌≡◌, ℕ, pos, List, [], ◌∷◌, Option, find}
use Rattle.sqlite_value.specs.declared.value.Value.TheVariants.{Blob, Int}
use Rattle.sqlite_value.specs.Order.{Row}
use Rattle.sqlite_trees.specs.Tree.{Trees, has_rowid, put_row, without_rowid}
use Rattle.sqlite_trees.specs.View.{IsClean, View}
use Rattle.sqlite_trees.specs.declared.store.Shape.TheVariants.{Table}
use Rattle.book_beside.specs.declared.write.Side.{Side}
use Rattle.book_beside.specs.declared.write.Side.TheVariants.{Accounts, Sessions}
use Rattle.book_beside.specs.declared.write.Write.{Write}
use Rattle.book_beside.specs.declared.write.Write.TheVariants.{Account, NoAccount, NoSession, Session}

-- the row of a table that has these octets at a place
abbrev pub placed : ℕ → List ℕ → Row
placed place octets = Int (pos place) ∷ Blob octets ∷ []

-- what a table has at a place
abbrev pub row_at : List Row → ℕ → Option Row
row_at table place = find (has_rowid (pos place)) table

-- what stands beside the rows of a book
pub record Beside : Type 0 where
  pub accounts : List Row
  pub sessions : List Row

-- nothing stands beside the rows
abbrev pub nothing : Beside
nothing = record { accounts = []; sessions = [] }

-- after one write
abbrev pub written : Beside → Write → Beside
written beside (Account place octets) = record beside { accounts = put_row (placed place octets.items) beside.accounts }
written beside (NoAccount place) = record beside { accounts = without_rowid (pos place) beside.accounts }
written beside (Session place octets) = record beside { sessions = put_row (placed place octets.items) beside.sessions }
written beside (NoSession place) = record beside { sessions = without_rowid (pos place) beside.sessions }

-- after these writes, the first of them first
abbrev pub written_all : Beside → List Write → Beside
written_all beside [] = beside
written_all beside (write ∷ writes) = written_all (written beside write) writes

-- ---- the trees of a database

abbrev pub tree_of : Side → ℕ
tree_of Accounts = 2
tree_of Sessions = 3

abbrev pub table_of : Side → Beside → List Row
table_of Accounts beside = beside.accounts
table_of Sessions beside = beside.sessions

abbrev pub beside_in : Trees → Beside
beside_in trees = record { accounts = trees 2; sessions = trees 3 }

-- the trees are there
pub record HasBeside (view : View) : Type 0 where
  pub accounts : view.shape 2 ≡ Table
  pub sessions : view.shape 3 ≡ Table

-- what stands beside the rows has changed by this write, and the trees of the rows have not
pub record IsWritten (old : Trees) (write : Write) (new : Trees) : Type 0 where
  pub beside : beside_in new ≡ written (beside_in old) write
  pub rows : new 0 ≡ old 0
  pub book : new 1 ≡ old 1

-- what stands beside the rows has changed by these writes, and the trees of the rows have not
pub record AreWritten (old : Trees) (writes : List Write) (new : Trees) : Type 0 where
  pub beside : beside_in new ≡ written_all (beside_in old) writes
  pub rows : new 0 ≡ old 0
  pub book : new 1 ≡ old 1

-- after a call in a transaction: the schema stays, no crash shows it, and a store that is clean was
pub record IsUncommitted {S : Type 0} (view : S → View) (recovers : S → Trees → Type 0) (old new : S) : Type 0 where
  pub clean : IsClean (view new) → IsClean (view old)
  pub quiet : (db : Trees) → recovers new db → recovers old db
  pub shape : (view new).shape ≡ (view old).shape
  pub committed_shape : (view new).committed_shape ≡ (view old).committed_shape
