use Rattle.cc_book.proofs.Ending.{ended-all, ended-nothing}
use Rattle.cc_book.proofs.laws.ended_sessions_hold_nothing.Goals as goal

pub returns : goal.returns
returns c = record { service = ended-nothing; account = ended-all }
