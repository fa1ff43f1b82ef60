use Rattle.answer_law.proofs.Events.{debit-answered, refund-answered, price-answered, balance-answered}
use Rattle.answer_law.proofs.laws.events_are_answered_octet_for_octet.Goals as goal

pub returns-clause-debit : goal.returns-clause-debit
returns-clause-debit c = debit-answered

pub returns-clause-refund : goal.returns-clause-refund
returns-clause-refund c = refund-answered

pub returns-clause-price : goal.returns-clause-price
returns-clause-price c = price-answered

pub returns-clause-balance : goal.returns-clause-balance
returns-clause-balance c = balance-answered
