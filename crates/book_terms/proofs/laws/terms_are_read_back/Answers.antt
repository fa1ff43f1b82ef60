use Rattle.book_terms.proofs.Exact.{terms_again}
use Rattle.book_terms.proofs.laws.terms_are_read_back.Goals as goal

pub returns : goal.returns
returns c = terms_again
