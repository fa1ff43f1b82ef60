use Rattle.farm_watch.proofs.Lives.{life}
use Rattle.farm_watch.proofs.laws.peers_come_up_once_and_nothing_follows_the_end.Goals as goal

pub returns : goal.returns
returns c = life
