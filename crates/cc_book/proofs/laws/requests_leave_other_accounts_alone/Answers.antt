use Rattle.cc_book.proofs.Untouched.{balance-beside, reserved-beside, reserved-by_event}
use Rattle.cc_book.proofs.laws.requests_leave_other_accounts_alone.Goals as goal

pub returns : goal.returns
returns c = record { balance = balance-beside; reserved = reserved-beside; by_event = reserved-by_event }
