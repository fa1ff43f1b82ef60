use Rattle.book_entries.proofs.Placed.{one_history}
use Rattle.book_entries.proofs.laws.same_octets_tell_one_history.Goals as goal

pub returns : goal.returns
returns c = one_history
