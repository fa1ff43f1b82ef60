use Rattle.book_entries.proofs.Placed.{history_again}
use Rattle.book_entries.proofs.laws.rows_tell_their_history.Goals as goal

pub returns : goal.returns
returns c = history_again
