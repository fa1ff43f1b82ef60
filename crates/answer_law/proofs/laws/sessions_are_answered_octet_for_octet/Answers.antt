use Rattle.answer_law.proofs.Sessions.{with_credit-answered, with_the_rest-answered, with_none-answered, two_services-answered, last_units-answered, one_without_a_tariff-answered, exhausted-answered, end_of_session-answered}
use Rattle.answer_law.proofs.laws.sessions_are_answered_octet_for_octet.Goals as goal

pub returns-clause-with_credit : goal.returns-clause-with_credit
returns-clause-with_credit c = with_credit-answered

pub returns-clause-with_the_rest : goal.returns-clause-with_the_rest
returns-clause-with_the_rest c = with_the_rest-answered

pub returns-clause-with_none : goal.returns-clause-with_none
returns-clause-with_none c = with_none-answered

pub returns-clause-two_services : goal.returns-clause-two_services
returns-clause-two_services c = two_services-answered

pub returns-clause-last_units : goal.returns-clause-last_units
returns-clause-last_units c = last_units-answered

pub returns-clause-one_without_a_tariff : goal.returns-clause-one_without_a_tariff
returns-clause-one_without_a_tariff c = one_without_a_tariff-answered

pub returns-clause-exhausted : goal.returns-clause-exhausted
returns-clause-exhausted c = exhausted-answered

pub returns-clause-end_of_session : goal.returns-clause-end_of_session
returns-clause-end_of_session c = end_of_session-answered
