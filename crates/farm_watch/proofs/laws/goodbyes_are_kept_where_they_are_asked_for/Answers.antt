use Rattle.farm_watch.proofs.Parting.{ends_at_once}
use Rattle.farm_watch.proofs.laws.goodbyes_are_kept_where_they_are_asked_for.Goals as goal

pub returns : goal.returns
returns c = ends_at_once
