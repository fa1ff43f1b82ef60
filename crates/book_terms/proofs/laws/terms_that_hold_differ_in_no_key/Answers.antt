use Rattle.book_terms.proofs.Leading.{differ_in_none}
use Rattle.book_terms.proofs.laws.terms_that_hold_differ_in_no_key.Goals as goal

pub returns : goal.returns
returns c = differ_in_none
