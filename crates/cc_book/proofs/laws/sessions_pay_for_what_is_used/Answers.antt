use Rattle.cc_book.proofs.Refusing.{used-each, used-initial, used-termination, used-update}
use Rattle.cc_book.proofs.laws.sessions_pay_for_what_is_used.Goals as goal

pub returns : goal.returns
returns c = record { initial = used-initial; update = used-update; termination = used-termination; each = used-each }
