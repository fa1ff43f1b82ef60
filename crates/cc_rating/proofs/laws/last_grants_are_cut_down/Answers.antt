use Rattle.cc_rating.proofs.Grants.{last-cut}
use Rattle.cc_rating.proofs.laws.last_grants_are_cut_down.Goals as goal

pub returns : goal.returns
returns c = last-cut
