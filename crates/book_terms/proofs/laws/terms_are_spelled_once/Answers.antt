use Rattle.book_terms.proofs.Exact.{spelled_once}
use Rattle.book_terms.proofs.laws.terms_are_spelled_once.Goals as goal

pub returns : goal.returns
returns c = spelled_once
