use Rattle.cc_book.proofs.Sums.{balances_total}
use Rattle.cc_book.proofs.laws.openings_less_debits_are_balances.Goals as goal

pub returns : goal.returns
returns c = λ terms history. balances_total terms history
