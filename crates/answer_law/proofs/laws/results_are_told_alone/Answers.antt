use Rattle.answer_law.proofs.Results.{unknown_subscriber-answered, open_already-answered, not_open-answered, debit_without_a_tariff-answered}
use Rattle.answer_law.proofs.laws.results_are_told_alone.Goals as goal

pub returns-clause-unknown_subscriber : goal.returns-clause-unknown_subscriber
returns-clause-unknown_subscriber c = unknown_subscriber-answered

pub returns-clause-open_already : goal.returns-clause-open_already
returns-clause-open_already c = open_already-answered

pub returns-clause-not_open : goal.returns-clause-not_open
returns-clause-not_open c = not_open-answered

pub returns-clause-debit_without_a_tariff : goal.returns-clause-debit_without_a_tariff
returns-clause-debit_without_a_tariff c = debit_without_a_tariff-answered
