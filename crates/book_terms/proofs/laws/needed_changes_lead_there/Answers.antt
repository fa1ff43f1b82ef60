use Rattle.book_terms.proofs.Leading.{lead_there}
use Rattle.book_terms.proofs.laws.needed_changes_lead_there.Goals as goal

pub returns : goal.returns
returns c = lead_there
