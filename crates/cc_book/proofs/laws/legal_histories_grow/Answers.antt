use Rattle.cc_book.proofs.Keys.{IsLegal-change, IsLegal-push, IsLegal-sweep, new-without_reply}
use Rattle.cc_book.proofs.laws.legal_histories_grow.Goals as goal

pub returns-clause-by_request : goal.returns-clause-by_request
returns-clause-by_request c = λ terms history moment request legal new. IsLegal-push terms history moment request legal
    (new-without_reply terms history request new)

pub returns-clause-by_sweep : goal.returns-clause-by_sweep
returns-clause-by_sweep c = IsLegal-sweep

pub returns-clause-by_change : goal.returns-clause-by_change
returns-clause-by_change c = IsLegal-change
