use Rattle.book_entries.proofs.Pushed.{rows_of-push}
use Rattle.book_entries.proofs.laws.longer_histories_keep_their_rows.Goals as goal

pub returns : goal.returns
returns c = rows_of-push
