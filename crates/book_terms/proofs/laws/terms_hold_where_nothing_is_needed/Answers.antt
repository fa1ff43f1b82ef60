use Rattle.book_terms.proofs.Leading.{hold_already}
use Rattle.book_terms.proofs.laws.terms_hold_where_nothing_is_needed.Goals as goal

pub returns : goal.returns
returns c = hold_already
