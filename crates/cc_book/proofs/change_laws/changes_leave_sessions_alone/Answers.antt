use Rattle.cc_book.proofs.Changing.{change-held, change-open, change-price, change-reserved, change-session}
use Rattle.cc_book.proofs.change_laws.changes_leave_sessions_alone.Goals as goal

pub returns : goal.returns
returns c = record { session = change-session; held = change-held; reserved = change-reserved; prices = change-price; counted = change-open }
