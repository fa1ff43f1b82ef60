use Rattle.cc_book.proofs.Unnamed.{held-unnamed}
use Rattle.cc_book.proofs.laws.requests_leave_other_services_alone.Goals as goal

pub returns : goal.returns
returns c = held-unnamed
