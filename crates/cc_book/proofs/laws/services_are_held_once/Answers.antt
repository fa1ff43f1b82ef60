use Rattle.cc_book.proofs.Greatest.{held-greatest, held-limited}
use Rattle.cc_book.proofs.Holding.{held-once}
use Rattle.cc_book.proofs.laws.services_are_held_once.Goals as goal

pub returns : goal.returns
returns c = record { once = held-once; limited = held-limited; most = held-greatest }
