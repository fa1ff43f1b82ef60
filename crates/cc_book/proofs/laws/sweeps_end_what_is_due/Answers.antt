use Rattle.cc_book.proofs.SweepLaws.{held-released, held-stays, session-closed, session-ended, session-lasts}
use Rattle.cc_book.proofs.laws.sweeps_end_what_is_due.Goals as goal

pub returns-clause-ended : goal.returns-clause-ended
returns-clause-ended c = session-ended

pub returns-clause-released : goal.returns-clause-released
returns-clause-released c = held-released

pub returns-clause-lasts : goal.returns-clause-lasts
returns-clause-lasts c = session-lasts

pub returns-clause-held : goal.returns-clause-held
returns-clause-held c = held-stays

pub returns-clause-closed : goal.returns-clause-closed
returns-clause-closed c = session-closed
