use Rattle.cc_book.proofs.Keys.{IsLegal-empty}
use Rattle.cc_book.proofs.laws.the_empty_history_is_legal.Goals as goal

pub returns : goal.returns
returns c = IsLegal-empty
