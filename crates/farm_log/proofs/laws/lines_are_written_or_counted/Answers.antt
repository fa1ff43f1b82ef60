use Rattle.farm_log.proofs.Counting.{all_counted}
use Rattle.farm_log.proofs.laws.lines_are_written_or_counted.Goals as goal

pub returns : goal.returns
returns c = λ count told runs below. all_counted count told runs below
