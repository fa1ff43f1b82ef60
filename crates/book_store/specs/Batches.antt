-- Batches of rows.
use Rattle.std.specs.Prelude.{ℕ, List, [], ◌∷◌, ◌++◌}
use Rattle.book_store.specs.declared.batches.Batch.{Batch}
use Rattle.book_beside.specs.Beside.{Beside, written_all}
use Rattle.book_store.specs.Table.{octets_in}

-- the rows of batches, the first of them first
abbrev pub rows_of : List Batch → List (List ℕ)
rows_of [] = []
rows_of (batch ∷ batches) = octets_in batch.rows.items ++ rows_of batches

-- what stands beside the rows, once these batches are stored
abbrev pub written_by : Beside → List Batch → Beside
written_by beside [] = beside
written_by beside (batch ∷ batches) = written_by (written_all beside batch.writes.items) batches
