use Rattle.book_rows.proofs.RowExact.{row_again}
use Rattle.book_rows.proofs.laws.spelled_rows_are_read_back.Goals as goal

pub returns : goal.returns
returns c = row_again
