use Rattle.cc_rating.proofs.Grants.{held-free, held-is}
use Rattle.cc_rating.proofs.laws.grants_are_free.Goals as goal

pub returns-clause-cost : goal.returns-clause-cost
returns-clause-cost c = held-is

pub returns-clause-most : goal.returns-clause-most
returns-clause-most c = held-free
