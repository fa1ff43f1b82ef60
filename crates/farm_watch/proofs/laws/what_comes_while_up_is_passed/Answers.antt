use Rattle.farm_watch.proofs.Passed.{passed_in_life}
use Rattle.farm_watch.proofs.laws.what_comes_while_up_is_passed.Goals as goal

pub returns : goal.returns
returns c = passed_in_life
