use Rattle.book_terms.proofs.Leading.{need_nothing}
use Rattle.book_terms.proofs.laws.terms_that_hold_need_no_change.Goals as goal

pub returns : goal.returns
returns c = need_nothing
