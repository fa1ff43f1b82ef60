use Rattle.book_rows.proofs.RowExact.{spelled_once}
use Rattle.book_rows.proofs.laws.rows_are_spelled_once.Goals as goal

pub returns : goal.returns
returns c = spelled_once
