use Rattle.farm_watch.proofs.Parting.{behind, parts}
use Rattle.farm_watch.proofs.laws.nothing_is_lost_at_a_goodbye.Goals as goal

pub returns-clause-goes_on : goal.returns-clause-goes_on
returns-clause-goes_on c = parts

pub returns-clause-answers : goal.returns-clause-answers
returns-clause-answers c = λ site conn event has. (behind site conn event has).0

pub returns-clause-stays : goal.returns-clause-stays
returns-clause-stays c = λ site conn event has. (behind site conn event has).1
