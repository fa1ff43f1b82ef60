use Rattle.cc_book.proofs.SweepLaws.{ended-counted, sweep-again}
use Rattle.cc_book.proofs.laws.sweeps_end_a_session_once.Goals as goal

pub returns-clause-counted : goal.returns-clause-counted
returns-clause-counted c = ended-counted

pub returns-clause-again : goal.returns-clause-again
returns-clause-again c = sweep-again
