use Rattle.cc_book.proofs.Paying.{check-enough, check-too_little}
use Rattle.cc_book.proofs.laws.checks_tell_what_is_free.Goals as goal

pub returns : goal.returns
returns c = record { enough = check-enough; too_little = check-too_little }
