use Rattle.cc_book.proofs.Ranges.{entries-little}
use Rattle.cc_book.proofs.bound_laws.entries_move_little.Goals as goal

pub returns : goal.returns
returns c = entries-little
