use Rattle.cc_book.proofs.Reserving.{opening-reserved, termination-granted, update-reserved}
use Rattle.cc_book.proofs.laws.grants_are_reserved.Goals as goal

pub returns : goal.returns
returns c = record { opening = opening-reserved; update = update-reserved; termination = termination-granted }
