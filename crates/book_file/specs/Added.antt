-- A database to which the trees beside the rows were added.
use Rattle.std.specs.Prelude.{◌≡◌}
use Rattle.sqlite_trees.specs.Tree.{Trees}
use Rattle.book_beside.specs.Beside.{beside_in, nothing}

-- the rows and what the book is are as before, and nothing stands beside the rows
pub record HasNothingBeside (old new : Trees) : Type 0 where
  pub rows : new 0 ≡ old 0
  pub book : new 1 ≡ old 1
  pub beside : beside_in new ≡ nothing
