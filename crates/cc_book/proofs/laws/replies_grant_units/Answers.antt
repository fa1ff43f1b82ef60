use Rattle.cc_book.proofs.Paying.{grants_units}
use Rattle.cc_book.proofs.laws.replies_grant_units.Goals as goal

pub returns : goal.returns
returns c = grants_units
