use Rattle.cc_book.proofs.Postings.{balance_of-sweep, balance_of-take, balance_of-there}
use Rattle.cc_book.proofs.Sums.{balance_of-joined}
use Rattle.cc_book.proofs.laws.balances_move_by_debits.Goals as goal

pub returns-clause-by_request : goal.returns-clause-by_request
returns-clause-by_request c = λ terms history moment request account. balance_of-take terms history moment request account

pub returns-clause-by_sweep : goal.returns-clause-by_sweep
returns-clause-by_sweep c = λ terms history moment account. balance_of-sweep terms history moment account

pub returns-clause-by_change : goal.returns-clause-by_change
returns-clause-by_change c = balance_of-there

pub returns-clause-joined : goal.returns-clause-joined
returns-clause-joined c = balance_of-joined
