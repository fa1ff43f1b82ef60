use Rattle.cc_rating.proofs.Grants.{units-most, units-wanted}
use Rattle.cc_rating.proofs.laws.grants_are_the_most_that_is_free.Goals as goal

pub returns-clause-at_most_asked : goal.returns-clause-at_most_asked
returns-clause-at_most_asked c = units-wanted

pub returns-clause-most : goal.returns-clause-most
returns-clause-most c = units-most
