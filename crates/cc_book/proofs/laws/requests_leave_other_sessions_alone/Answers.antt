use Rattle.cc_book.proofs.Beside.{held-beside, held-beside_event, session-beside, session-beside_event}
use Rattle.cc_book.proofs.laws.requests_leave_other_sessions_alone.Goals as goal

pub returns : goal.returns
returns c = record { session = session-beside; held = held-beside; by_event = session-beside_event; held_by_event = held-beside_event }
