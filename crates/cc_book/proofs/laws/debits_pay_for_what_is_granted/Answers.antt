use Rattle.cc_book.proofs.Paying.{covered, debit-made, debit-refused, paid}
use Rattle.cc_book.proofs.laws.debits_pay_for_what_is_granted.Goals as goal

pub returns : goal.returns
returns c = record { paid = paid; covered = covered; made = debit-made; too_little = debit-refused }
