use Rattle.farm_watch.proofs.Parting.{tells_where_it_parts}
use Rattle.farm_watch.proofs.laws.leaving_is_told_where_closing_is_left.Goals as goal

pub returns : goal.returns
returns c = tells_where_it_parts
